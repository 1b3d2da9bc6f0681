use Rattle.std.proofs.Common.{take, drop}
use Rattle.sat_base.specs.Rows.{AreInOrder}
use Rattle.sat_book.specs.ByKind.{AreRecordsOf}
use Rattle.sat_book.specs.Opened.{StandBehind}
use Rattle.sat_book.proofs.sorting.sort_rows.Given as goal

abbrev pub invariant-loop-row : goal.invariant-loop-row
invariant-loop-row l = AreRecordsOf (take l.row-index l.rows) l.parts × AreInOrder (drop l.row-index l.rows) × StandBehind l.parts (drop l.row-index l.rows)
