use Rattle.std.proofs.Common.{◌≡◌}
use Rattle.std.specs.Prelude.{slice_get}
use Rattle.rows.specs.Entries.{kept}
use Rattle.rows.proofs.slots.first_row.Given as goal

-- no slot so far has a row
abbrev pub invariant-loop-slot : goal.invariant-loop-slot
invariant-loop-slot g l = slice_get (kept l.slot-iterator) 0 ≡ slice_get (kept l.fn.slots) 0
