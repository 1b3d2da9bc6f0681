use Rattle.std.proofs.Common.{ℕ, ◌≡◌, ◌<◌, length, slice_index}
use Rattle.gf_linear.specs.Table.{at}
use Rattle.bw_decode.specs.Equations.{coefficient}
use Rattle.bw_decode.proofs.decoding.write_system.Given as goal

abbrev pub invariant-loop-i : goal.invariant-loop-i
invariant-loop-i l = record {
  rows : l.matrix.rows ≡ length l.other_points;
  cols : l.matrix.cols ≡ l.cols;
  room : l.matrix.room ≡ l.fn.matrix.room;
  entries : (r c : ℕ) → r < l.i → c < l.cols
      → at l.matrix r c
      ≡ coefficient (length l.points) (slice_index l.points) (slice_index l.values) (slice_index l.other_points r) (slice_index l.other_values r) c;
}
