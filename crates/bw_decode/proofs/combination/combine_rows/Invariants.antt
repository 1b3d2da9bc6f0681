use Rattle.std.proofs.Common.{ℕ, ◌≡◌, ◌<◌, length, slice_index}
use Rattle.bw_decode.specs.Forms.{combined}
use Rattle.bw_decode.specs.Answers.{row_value}
use Rattle.bw_decode.proofs.combination.combine_rows.Given as goal

abbrev pub invariant-loop-l : goal.invariant-loop-l
invariant-loop-l l =
    (k : ℕ) → k < l.l → slice_index l.column k ≡ row_value (length l.factors) l.stripe (combined l.factors) k
