use Rattle.std.proofs.Common.{◌≡◌, ◌+◌, ◌*◌}
use Rattle.placement.specs.Flags.{rank}
use Rattle.placement.proofs.flags.Flags.select.Given as goal

abbrev pub invariant-loop-block : goal.invariant-loop-block
invariant-loop-block l = rank (256 * l.block) l.self + l.left ≡ l.k
