use Rattle.std.proofs.Common.{ℕ, ◌≡◌, ◌≢◌, ◌<◌, ◌≤◌, length, slice_index}
use Rattle.gf_linear.specs.Polynomial.{horner, Apart}
use Rattle.gf_linear.specs.Differences.{differences}
use Rattle.bw_decode.proofs.decoding.choose.Given as goal

abbrev pub invariant-loop-i : goal.invariant-loop-i
invariant-loop-i l =
    let X = slice_index l.points in
    let E = λ (i : ℕ). horner 1 l.locator (X i) in
    record {
      within : l.n ≤ length l.chosen;
      count : differences l.i E (λ i. 0) ≡ l.n;
      from : (j : ℕ) → j < l.n → (i : ℕ) × (i < l.i) × (slice_index l.chosen j ≡ X i) × (slice_index l.chosen_values j ≡ slice_index l.values i) × (E i ≢ 0);
      apart : Apart l.n (slice_index l.chosen);
    }
