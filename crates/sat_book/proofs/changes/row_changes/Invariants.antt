use Rattle.std.proofs.Common.{◌≡◌, take, map}
use Rattle.machine_step.specs.Bounds.{Each}
use Rattle.sat_book.specs.Changes.{row_change}
use Rattle.sat_book.specs.Ids.{HasId}
use Rattle.sat_book.proofs.changes.row_changes.Given as goal

abbrev pub invariant-loop-change : goal.invariant-loop-change
invariant-loop-change l = (l.rows.items ≡ map row_change (take l.change-index l.changes)) × Each HasId (take l.change-index l.changes)
