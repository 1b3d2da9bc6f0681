use Rattle.std.proofs.Common.{ℕ, ◌≡◌, ◌≢◌, ◌<◌, ◌≤◌}
use Rattle.gf256.specs.Field.{◌⊕◌, ◌⊗◌}
use Rattle.gf_linear.specs.Table.{SameShape, at}
use Rattle.gf_linear.specs.Elimination.{SameKernel}
use Rattle.gf_linear.proofs.elimination.eliminate.Given as goal

abbrev pub invariant-loop-other : goal.invariant-loop-other
invariant-loop-other l = record {
  shape : SameShape l.initial.m l.m;
  eliminated :
      (i j : ℕ) → i < l.other → i ≢ l.row → j < l.initial.m.cols
      → at l.m i j ≡ at l.initial.m i j ⊕ (at l.initial.m i l.col ⊗ l.scale) ⊗ at l.initial.m l.row j;
  later : (i j : ℕ) → l.other ≤ i → j < l.initial.m.cols → at l.m i j ≡ at l.initial.m i j;
  own : (j : ℕ) → j < l.initial.m.cols → at l.m l.row j ≡ at l.initial.m l.row j;
  kernel : SameKernel l.initial.m.rows l.initial.m.cols (at l.initial.m) (at l.m);
}
