use Rattle.std.proofs.Common.{◌≡◌, ◌+◌}
use Rattle.placement.specs.Flags.{rank}
use Rattle.placement.proofs.flags.select_from.Given as goal

abbrev pub invariant-loop-at : goal.invariant-loop-at
invariant-loop-at l = rank l.at l.flags + l.left ≡ rank l.start l.flags + l.k
