use Rattle.std.proofs.Common.{ℕ, ◌≡◌, ◌<◌, ◌+◌, ◌*◌, length, slice_index}
use Rattle.gf_linear.specs.Lagrange.{interpolated}
use Rattle.bw_decode.specs.Altered.{indexes_of}
use Rattle.bw_decode.specs.Answers.{bytes_of}
use Rattle.bw_decode.proofs.prediction.rebuild.Given as goal

abbrev pub invariant-loop-l : goal.invariant-loop-l
invariant-loop-l l =
    (i c : ℕ) → i < l.l → c < l.size
    → slice_index l.stripe (i * l.size + c)
    ≡ interpolated (length l.places) (λ j. slice_index (indexes_of l.answers) (slice_index l.places j))
    (λ j. slice_index (bytes_of l.size c l.answers) (slice_index l.places j)) i
