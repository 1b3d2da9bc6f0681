use Rattle.std.proofs.Common.{ℕ, ◌≡◌, ◌≢◌, ◌<◌, length, slice_index}
use Rattle.gf256.specs.Field.{◌⊕◌, ◌⊗◌, power}
use Rattle.gf256.specs.Sums.{total}
use Rattle.gf_linear.specs.Table.{SameShape, at}
use Rattle.bw_decode.proofs.decoding.write_row.Given as goal

abbrev pub invariant-loop-c : goal.invariant-loop-c
invariant-loop-c l = record {
  shape : SameShape l.initial.matrix l.matrix;
  row : (k : ℕ) → k < l.c
      → at l.matrix l.i k
      ≡ total (length l.points) (λ j. slice_index l.initial.terms j ⊗ power (slice_index l.points j) k) ⊕ l.y ⊗ power l.x k;
  others : (r k : ℕ) → r ≢ l.i → k < l.initial.matrix.cols → at l.matrix r k ≡ at l.initial.matrix r k;
  terms : (j : ℕ) → j < length l.points
      → slice_index l.terms j ≡ slice_index l.initial.terms j ⊗ power (slice_index l.points j) l.c;
  own : l.own ≡ l.y ⊗ power l.x l.c;
}
