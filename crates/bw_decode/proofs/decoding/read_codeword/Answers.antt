use Rattle.std.proofs.Common.{ℕ, ◌≡◌, ◌≢◌, ◌<◌, ◌≤◌, ◌-◌, ◌/◌, sym, ap, ◌∙◌, subst, length, arith, slice_index}
use Rattle.std.proofs.lemmas.List.{length-take}
use Rattle.gf_linear.specs.Lagrange.{interpolated}
use Rattle.gf_linear.specs.Differences.{differences}
use Rattle.gf_linear.specs.Polynomial.{Apart, horner}
use Rattle.gf_linear.proofs.Lagrange.{AreBytes}
use Rattle.rs_stripe.specs.Codeword.{share}
use Rattle.bw_decode.specs.Near.{IsNearData}
use Rattle.bw_decode.proofs.Locator.{AreRight, few_errors, near_data}
use Rattle.bw_decode.proofs.decoding.read_codeword.Goals as goal

-- the chosen values are right
are_right : (r k found : ℕ) (X Y C V L : ℕ → ℕ) → AreBytes r X → found ≡ k
    → ((d : ℕ → ℕ) → IsNearData r k X Y d → (i : ℕ) → i < r → L i ≢ 0 → share k d (X i) ≡ Y i)
    → ((j : ℕ) → j < found → (i : ℕ) × (i < r) × (C j ≡ X i) × (V j ≡ Y i) × (L i ≢ 0))
    → Apart found C → AreRight r k X Y C V
are_right r k found X Y C V L bytes e right from apart = record {
  apart = subst (λ n. Apart n C) e apart;
  bytes = λ j h. let w = from j (omega arith) in subst (λ z. z < 256) (sym w.2) (bytes w.0 w.1);
  right = λ d near j h. let w = from j (omega arith) in ap (share k d) w.2 ∙ right d near w.0 w.1 w.4 ∙ sym w.3;
}

too_many : (e n count : ℕ) → n ≤ e → count ≡ n → e < count → ⊥
too_many e n count a b h = omega arith

pub returns-then-count_errors-radius-clause-unclear : goal.returns-then-count_errors-radius-clause-unclear
returns-then-count_errors-radius-clause-unclear c same d near =
    let r = length c.args.points.now in
    let k = length c.args.out.now in
    let X = slice_index c.args.points.now in
    let Y = slice_index c.args.values.now in
    let C = slice_index c.choose-found.new.chosen in
    let V = slice_index c.choose-found.new.chosen_values in
    let full : length c.choose-found.new.chosen ≡ k = omega (arith, c.choose-found.auto.chosen, length-take {A = ℕ}) in
    let found : c.choose-found.result ≡ k = omega (arith, c.choose-found.ensures.within) in
    let right = are_right r k c.choose-found.result X Y C V (λ i. horner 1 c.args.locator.now (X i)) (λ i h. omega (arith, c.type_inv.points i))
    found c.requires.locator.right c.choose-found.ensures.from c.choose-found.ensures.apart in
    let counted : c.count_errors.result ≡ differences r (λ i. interpolated k C V (X i)) Y =
    subst (λ n. c.count_errors.result ≡ differences r (λ i. interpolated n C V (X i)) Y) full c.count_errors.ensures in
    too_many ((r - k) / 2) (differences r (λ i. interpolated k C V (X i)) Y) c.count_errors.result
    (few_errors r k X Y C V right d near) counted (subst (λ e. e < c.count_errors.result) c.requires.radius c.if-count_errors-radius.true)

pub returns-clause-near : goal.returns-clause-near
returns-clause-near c same =
    let r = length c.args.points.now in
    let k = length c.args.out.now in
    let X = slice_index c.args.points.now in
    let Y = slice_index c.args.values.now in
    let C = slice_index c.choose-found.new.chosen in
    let V = slice_index c.choose-found.new.chosen_values in
    let out = c.write_data.new.out in
    let kept : length out ≡ k = omega (arith, c.write_data.auto.out) in
    let full : length c.choose-found.new.chosen ≡ length out = omega (arith, c.choose-found.auto.chosen, length-take {A = ℕ}) in
    let few : differences r (λ i. interpolated (length out) C V (X i)) Y ≤ (r - length out) / 2 =
    subst (λ n. differences r (λ i. interpolated n C V (X i)) Y ≤ (r - length out) / 2) full
    (subst (λ n. n ≤ (r - length out) / 2) c.count_errors.ensures (omega (arith, c.if-count_errors-radius.false, c.requires.radius))) in
    near_data r (length out) X Y C V (slice_index out) (omega (arith, c.requires.size))
    (λ j h. subst (λ n. slice_index out j ≡ interpolated n C V j) full (c.write_data.ensures j h)) few
