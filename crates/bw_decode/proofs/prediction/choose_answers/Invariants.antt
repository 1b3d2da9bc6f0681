use Rattle.std.proofs.Common.{ℕ, ◌≡◌, ◌<◌, ◌≤◌, length, get_or, take, false, not, slice_index, count_by}
use Rattle.bw_decode.proofs.prediction.choose_answers.Given as goal

abbrev pub invariant-loop-i : goal.invariant-loop-i
invariant-loop-i l = record {
  within : l.n ≤ length l.places;
  count : l.n ≡ count_by (λ mark. not mark) (take l.i l.blamed);
  rise : (j k : ℕ) → j < k → k < l.n → slice_index l.places j < slice_index l.places k;
  before : (j : ℕ) → j < l.n → slice_index l.places j < l.i;
  unmarked : (j : ℕ) → j < l.n → get_or l.blamed (slice_index l.places j) false ≡ false;
}
