use Rattle.std.proofs.Common.{ℕ, ◌≡◌, ◌<◌, ◌≤◌, get_or, false, not, eqb, ◌||◌, slice_index}
use Rattle.rs_stripe.specs.Codeword.{share}
use Rattle.bw_decode.proofs.answers.mark_off_codeword.Given as goal

abbrev pub invariant-loop-i : goal.invariant-loop-i
invariant-loop-i l = record {
  done : (k : ℕ) → k < l.i
      → get_or l.blamed k false
      ≡ (get_or l.initial.blamed k false || not (eqb (share l.scheme.k (slice_index l.column) (slice_index l.points k)) (slice_index l.values k)));
  rest : (k : ℕ) → l.i ≤ k → get_or l.blamed k false ≡ get_or l.initial.blamed k false;
}
