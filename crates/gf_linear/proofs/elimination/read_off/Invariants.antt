use Rattle.std.proofs.Common.{ℕ, suc, ◌≡◌, ◌<◌, ◌≤◌, slice_index}
use Rattle.gf256.specs.Field.{◌⊗◌, inverse}
use Rattle.gf_linear.specs.Table.{at}
use Rattle.gf_linear.proofs.elimination.read_off.Given as goal

abbrev pub invariant-loop-col : goal.invariant-loop-col
invariant-loop-col l = record {
  free : (j : ℕ) → j < l.col → slice_index l.initial.marks j ≡ 0 → slice_index l.marks j ≡ 0;
  bound : (j r : ℕ) → j < l.col → slice_index l.initial.marks j ≡ suc r
      → slice_index l.marks j ≡ at l.m r l.right_side ⊗ inverse (at l.m r j);
  later : (j : ℕ) → l.col ≤ j → slice_index l.marks j ≡ slice_index l.initial.marks j;
}
