use Rattle.std.proofs.Common.{ℕ, ◌≡◌, ◌≢◌, ◌<◌, ◌≤◌}
use Rattle.gf256.specs.Field.{◌⊕◌, ◌⊗◌}
use Rattle.gf_linear.specs.Table.{SameShape, at}
use Rattle.gf_linear.proofs.elimination.add_row.Given as goal

abbrev pub invariant-loop-col : goal.invariant-loop-col
invariant-loop-col l = record {
  shape : SameShape l.initial.m l.m;
  added : (j : ℕ) → j < l.col
      → at l.m l.to j ≡ at l.initial.m l.to j ⊕ l.factor ⊗ at l.initial.m l.from j;
  later : (j : ℕ) → l.col ≤ j → j < l.initial.m.cols → at l.m l.to j ≡ at l.initial.m l.to j;
  others : (i j : ℕ) → i ≢ l.to → j < l.initial.m.cols → at l.m i j ≡ at l.initial.m i j;
}
