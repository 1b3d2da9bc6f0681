use Rattle.std.proofs.Common.{◌≡◌, take}
use Rattle.machine_step.specs.Places.{pieces_from}
use Rattle.machine_store.proofs.placing.pieces.Given as goal

abbrev pub invariant-loop-i : goal.invariant-loop-i
invariant-loop-i l = l.pieces.items ≡ pieces_from 0 (take l.i l.ids)
