use Rattle.std.proofs.Common.{ℕ, ◌≡◌, ◌≢◌, ◌<◌, ◌+◌, sym, ap, ◌∙◌, arith, ◌⊎◌, inl, inr, slice_index, slice_set, get_or-set_same, get_or-set_other, length-set}
use Rattle.std.proofs.lemmas.Bool.{cases_eq}
use Rattle.gf_linear.specs.Polynomial.{horner}
use Rattle.gf_linear.proofs.Lagrange.{differences_same, differences_more}
use Rattle.bw_decode.proofs.decoding.choose.Goals as goal

pub returns-then-n-chosen-clause-from : goal.returns-then-n-chosen-clause-from
returns-then-n-chosen-clause-from c j h =
    let w = c.loop-i.invariant.from j h in
    (w.0, omega (arith, w.1), w.2, w.3, w.4)

pub returns-clause-from : goal.returns-clause-from
returns-clause-from c j h =
    let w = c.loop-i.invariant.from j h in
    (w.0, omega (arith, w.1), w.2, w.3, w.4)

pub loop-i-preserved-then-v-eq0 : goal.loop-i-preserved-then-v-eq0
loop-i-preserved-then-v-eq0 c =
    let X = slice_index c.args.points.now in
    let E = λ (i : ℕ). horner 1 c.args.locator.now (X i) in
    let v = c.loop-i.invariant in
    record {
      within = v.within;
      count = differences_same c.loop-i.i E (λ i. 0) (sym c.monic_at-v.ensures ∙ c.if-v-eq0.true) ∙ v.count;
      from = λ j h. let w = v.from j h in (w.0, omega (arith, w.1), w.2, w.3, w.4);
      apart = v.apart;
    }

pub loop-i-preserved : goal.loop-i-preserved
loop-i-preserved c = record {
  within = omega (arith, length-set {A = ℕ});
  count = differences_more i E (λ i. 0) ne ∙ ap (λ n. n + 1) v.count;
  from = λ j h. from j h (cases_eq j n);
  apart = λ j k hj hk d. apart j k hj hk d (cases_eq j n) (cases_eq k n);
}
  where
    open c.loop-i use {i, n, invariant as v}

    X : ℕ → ℕ
    X = slice_index c.args.points.now

    E : ℕ → ℕ
    E k = horner 1 c.args.locator.now (X k)

    ne : E i ≢ 0
    ne e = c.if-v-eq0.false (c.monic_at-v.ensures ∙ e)

    new : ℕ → ℕ
    new = slice_index (slice_set c.loop-i.chosen n (X i))

    new_values : ℕ → ℕ
    new_values = slice_index (slice_set c.loop-i.chosen_values n (slice_index c.args.values.now i))

    here : new n ≡ X i
    here = get_or-set_same c.loop-i.chosen n (X i) 0 (omega arith)

    here_values : new_values n ≡ slice_index c.args.values.now i
    here_values = get_or-set_same c.loop-i.chosen_values n (slice_index c.args.values.now i) 0 (omega arith)

    other : (j : ℕ) → j ≢ n → new j ≡ slice_index c.loop-i.chosen j
    other j d = get_or-set_other c.loop-i.chosen n j (X i) 0 d

    other_values : (j : ℕ) → j ≢ n → new_values j ≡ slice_index c.loop-i.chosen_values j
    other_values j d = get_or-set_other c.loop-i.chosen_values n j (slice_index c.args.values.now i) 0 d

    from : (j : ℕ) → j < n + 1 → (j ≡ n) ⊎ (j ≢ n)
        → (k : ℕ) × (k < i + 1) × (new j ≡ X k) × (new_values j ≡ slice_index c.args.values.now k) × (E k ≢ 0)
    from j h (inl e) = (i, omega arith, ap new e ∙ here, ap new_values e ∙ here_values, ne)
    from j h (inr d) =
        let w = v.from j (omega arith) in
        (w.0, omega (arith, w.1), other j d ∙ w.2, other_values j d ∙ w.3, w.4)

    -- an earlier choice is another point than this one
    earlier : (j : ℕ) → j < n → slice_index c.loop-i.chosen j ≢ X i
    earlier j h e =
        let w = v.from j h in
        c.requires.distinct w.0 i (omega (arith, w.1)) c.loop-i-test.true (omega (arith, w.1)) (sym w.2 ∙ e)

    apart : (j k : ℕ) → j < n + 1 → k < n + 1 → j ≢ k → (j ≡ n) ⊎ (j ≢ n) → (k ≡ n) ⊎ (k ≢ n) → new j ≢ new k
    apart j k hj hk d (inl a) (inl b) = absurd (d (a ∙ sym b))
    apart j k hj hk d (inl a) (inr b) = λ e. earlier k (omega arith) (sym (other k b) ∙ sym e ∙ ap new a ∙ here)
    apart j k hj hk d (inr a) (inl b) = λ e. earlier j (omega arith) (sym (other j a) ∙ e ∙ ap new b ∙ here)
    apart j k hj hk d (inr a) (inr b) = λ e. v.apart j k (omega arith) (omega arith) d (sym (other j a) ∙ e ∙ other k b)
