use Rattle.std.proofs.Common.{ℕ, ◌≡◌, ◌<◌, length, slice_index}
use Rattle.bw_decode.specs.Forms.{combined}
use Rattle.bw_decode.specs.Answers.{values_of}
use Rattle.bw_decode.proofs.combination.combine_answers.Given as goal

abbrev pub invariant-loop-i : goal.invariant-loop-i
invariant-loop-i l =
    (k : ℕ) → k < l.i
    → slice_index l.values k ≡ slice_index (values_of (length l.factors) (combined l.factors) l.answers) k
