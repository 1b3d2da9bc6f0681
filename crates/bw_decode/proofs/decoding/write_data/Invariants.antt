use Rattle.std.proofs.Common.{ℕ, ◌≡◌, ◌<◌, length, slice_index}
use Rattle.gf_linear.specs.Lagrange.{interpolated}
use Rattle.bw_decode.proofs.decoding.write_data.Given as goal

abbrev pub invariant-loop-j : goal.invariant-loop-j
invariant-loop-j l =
    (k : ℕ) → k < l.j
    → slice_index l.out k ≡ interpolated (length l.points) (slice_index l.points) (slice_index l.values) k
