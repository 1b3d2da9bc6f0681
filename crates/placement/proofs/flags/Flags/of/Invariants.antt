use Rattle.std.proofs.Common.{◌≡◌, ℕ, ◌+◌, ◌*◌, ◌<◌, length, vec_capacity}
use Rattle.std.specs.Prelude.{slice_index}
use Rattle.placement.specs.Flags.{rank}
use Rattle.placement.proofs.flags.Flags.of.Given as goal

abbrev pub invariant-loop-block : goal.invariant-loop-block
invariant-loop-block l = record {
  long : length l.counts.items ≡ l.block;
  room : vec_capacity l.counts ≡ l.blocks;
  sum : l.total ≡ rank (256 * l.block) l.flags.items;
  each : (b : ℕ) → b < l.block → rank (256 * b) l.flags.items + slice_index l.counts.items b ≡ rank (256 * (b + 1)) l.flags.items;
}
