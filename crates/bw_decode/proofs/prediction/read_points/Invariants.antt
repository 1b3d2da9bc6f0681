use Rattle.std.proofs.Common.{ℕ, ◌≡◌, ◌<◌, slice_index}
use Rattle.bw_decode.proofs.prediction.read_points.Given as goal

abbrev pub invariant-loop-j : goal.invariant-loop-j
invariant-loop-j l =
    (k : ℕ) → k < l.j → slice_index l.chosen k ≡ slice_index l.points (slice_index l.places k)
