use Rattle.std.proofs.Common.{ℕ, ◌≡◌, ◌<◌, length, slice_index}
use Rattle.gf256.specs.Field.{◌⊗◌}
use Rattle.gf256.specs.Sums.{total}
use Rattle.bw_decode.specs.Answers.{bytes_of}
use Rattle.bw_decode.proofs.prediction.combine.Given as goal

abbrev pub invariant-loop-j : goal.invariant-loop-j
invariant-loop-j l =
    (c : ℕ) → c < length l.row → slice_index l.row c
    ≡ total l.j (λ j. slice_index l.weights j ⊗ slice_index (bytes_of (length l.row) c l.answers) (slice_index l.places j))
