use Rattle.std.proofs.Common.{ℕ, ◌<◌, slice_index}
use Rattle.trial_indexes.proofs.are_rising.Given as goal

abbrev pub invariant-loop-i : goal.invariant-loop-i
invariant-loop-i l = record {
  rising : (j k : ℕ) → j < k → k < l.i → slice_index l.indexes j < slice_index l.indexes k;
  below : (j : ℕ) → j < l.i → slice_index l.indexes j < l.n;
}
