use Rattle.std.proofs.Common.{take}
use Rattle.sat_book.specs.Opened.{AreChanges}
use Rattle.sat_book.proofs.upgrading.changes_of.Given as goal

abbrev pub invariant-loop-row : goal.invariant-loop-row
invariant-loop-row l = AreChanges l.version (take l.row-index l.rows) l.changes.items
