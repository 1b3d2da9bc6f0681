use Rattle.std.proofs.Common.{◌≡◌}
use Rattle.placement.specs.Flags.{rank}
use Rattle.placement.proofs.flags.count_set.Given as goal

abbrev pub invariant-loop-flag : goal.invariant-loop-flag
invariant-loop-flag l = l.count ≡ rank l.flag-index l.flags
