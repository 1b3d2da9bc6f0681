use Rattle.std.proofs.Common.{ℕ, suc, ◌≡◌, ◌≢◌, ◌<◌, ◌+◌, refl, sym, ap, ◌∙◌, ◌⊎◌, inl, inr, arith, length, slice_index}
use Rattle.std.proofs.lemmas.Bool.{cases_eq}
use Rattle.gf256.specs.Field.{◌⊕◌, ◌⊗◌, power}
use Rattle.gf256.specs.Sums.{total}
use Rattle.gf256.proofs.Laws.{product_one, product_comm, product_assoc, power_zero, power_suc}
use Rattle.gf256.proofs.Sums.{total_agree}
use Rattle.gf_linear.specs.Table.{at}
use Rattle.bw_decode.proofs.decoding.write_row.Goals as goal

times_first_power : (a x : ℕ) → a < 256 → a ≡ a ⊗ power x 0
times_first_power a x h = sym (ap (λ z. a ⊗ z) (power_zero x) ∙ product_one a h)

times_next_power : (a x n : ℕ) → (a ⊗ power x n) ⊗ x ≡ a ⊗ power x (n + 1)
times_next_power a x n =
    let e : suc n ≡ n + 1 = omega arith in
    product_assoc a (power x n) x
    ∙ ap (λ z. a ⊗ z) (product_comm (power x n) x ∙ sym (power_suc x n) ∙ ap (power x) e)

entry_of_terms : (n m : ℕ) (T X S : ℕ → ℕ) (x y sum own c : ℕ) → m ≡ n → sum ≡ total m S
    → ((j : ℕ) → j < n → S j ≡ T j ⊗ power (X j) c) → own ≡ y ⊗ power x c
    → sum ⊕ own ≡ total n (λ j. T j ⊗ power (X j) c) ⊕ y ⊗ power x c
entry_of_terms n m T X S x y sum own c e es each eo =
    ap (λ z. z ⊕ own) (es ∙ ap (λ k. total k S) e ∙ total_agree n S (λ j. T j ⊗ power (X j) c) each)
    ∙ ap (λ z. total n (λ j. T j ⊗ power (X j) c) ⊕ z) eo

pub loop-c-init : goal.loop-c-init
loop-c-init c = record {
  shape = record { rows = refl; cols = refl; room = refl };
  row = λ k h. absurd (omega arith);
  others = λ r k ne h. refl;
  terms = λ j h. times_first_power (slice_index c.args.terms.now j) (slice_index c.args.points.now j) (omega (arith, c.type_inv.terms j));
  own = times_first_power c.args.y c.args.x (omega arith);
}

pub loop-c-preserved : goal.loop-c-preserved
loop-c-preserved c = record {
  shape = record {
    rows = set.shape.rows ∙ v.shape.rows;
    cols = set.shape.cols ∙ v.shape.cols;
    room = set.shape.room ∙ v.shape.room;
  };
  row = λ k h. row k h (cases_eq k c.loop-c.c);
  others = λ r k ne h. set.others r k (omega (arith, v.shape.cols)) (inl ne) ∙ v.others r k ne h;
  terms = λ j h.
      c.multiply_each.ensures j h ∙ ap (λ z. z ⊗ X j) (v.terms j h) ∙ times_next_power (T j) (X j) c.loop-c.c;
  own = c.mul-own.ensures ∙ ap (λ z. z ⊗ c.args.x) v.own ∙ times_next_power c.args.y c.args.x c.loop-c.c;
}
  where
    open c.loop-c use {invariant as v}
    open c.set use {ensures as set}

    n : ℕ
    n = length c.args.points.now

    X : ℕ → ℕ
    X = slice_index c.args.points.now

    T : ℕ → ℕ
    T = slice_index c.args.terms.now

    row : (k : ℕ) → k < c.loop-c.c + 1 → (k ≡ c.loop-c.c) ⊎ (k ≢ c.loop-c.c)
        → at c.set.new.self c.args.i k ≡ total n (λ j. T j ⊗ power (X j) k) ⊕ c.args.y ⊗ power c.args.x k
    row k h (inl e) =
        ap (at c.set.new.self c.args.i) e ∙ set.here ∙ c.add.ensures
        ∙ entry_of_terms n (length c.loop-c.terms) T X (slice_index c.loop-c.terms) c.args.x c.args.y c.sum_of.result c.loop-c.own c.loop-c.c
        (omega (arith, c.loop-c.auto.terms, c.requires.lengths)) c.sum_of.ensures v.terms v.own
        ∙ ap (λ m. total n (λ j. T j ⊗ power (X j) m) ⊕ c.args.y ⊗ power c.args.x m) (sym e)
    row k h (inr ne) =
        set.others c.args.i k (omega (arith, c.loop-c-test.true, c.cols-c-end.ensures.cols, v.shape.cols)) (inr ne)
        ∙ v.row k (omega arith)
