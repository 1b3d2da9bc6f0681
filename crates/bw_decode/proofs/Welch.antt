-- Unique decoding: a linear system that has a solution where a near polynomial is, and whose every solution leads to it.
use Rattle.std.proofs.Common.{ℕ, zero, suc, ◌≡◌, ◌≢◌, ◌<◌, ◌≤◌, ◌+◌, ◌-◌, refl, sym, ap, ◌∙◌, subst, List, length, ◌⊎◌, inl, inr, arith, lit<, cond, eqb, true, false, Bool}
use Rattle.std.proofs.lemmas.Bool.{cases_eq, eqb-true}
use Rattle.gf256.specs.Field.{◌⊕◌, ◌⊗◌}
use Rattle.gf256.proofs.Laws.{product_comm, zero_product, product_zero, no_divisors}
use Rattle.gf256.proofs.Ring.{sum-lt, equal_from_sum, sum_from_equal, product_sum_left}
use Rattle.gf_linear.specs.Polynomial.{horner, Bytes, Apart}
use Rattle.gf_linear.specs.Differences.{differences}
use Rattle.gf_linear.proofs.Poly.{IsPoly, IsMonic, Zero, horner-lt, linear_monic, one_monic, monic_poly, monic_of, product_poly, poly_of, poly_same, monic_roots}
use Rattle.gf_linear.proofs.Lagrange.{AreBytes, picked, picked_each, picked_distinct, agreeing, differences_comm, differences_triangle, poly-lt}

-- ---- the polynomial that is 0 at each place where f and Y differ
locator : (f X Y : ℕ → ℕ) → ℕ → ℕ → ℕ
locator f X Y zero x = 1
locator f X Y (suc n) x = cond (eqb (f (X n)) (Y n)) (locator f X Y n x) ((x ⊕ X n) ⊗ locator f X Y n x)

locator_monic : (f X Y : ℕ → ℕ) (n : ℕ) → IsMonic (differences n (λ i. f (X i)) Y) (locator f X Y n)
unfolding locator
locator_monic f X Y zero = one_monic
locator_monic f X Y (suc n) = go (eqb (f (X n)) (Y n)) (locator_monic f X Y n)
  where
    go : (b : Bool) → IsMonic (differences n (λ i. f (X i)) Y) (locator f X Y n)
        → IsMonic (differences n (λ i. f (X i)) Y + cond b 0 1) (λ x. cond b (locator f X Y n x) ((x ⊕ X n) ⊗ locator f X Y n x))
    go true p =
        let e : differences n (λ i. f (X i)) Y ≡ differences n (λ i. f (X i)) Y + 0 = omega arith in
        subst (λ k. IsMonic k (locator f X Y n)) e p
    go false p =
        let e : suc (differences n (λ i. f (X i)) Y) ≡ differences n (λ i. f (X i)) Y + 1 = omega arith in
        subst (λ k. IsMonic k (λ x. (x ⊕ X n) ⊗ locator f X Y n x)) e (linear_monic (X n) p)

-- where it is not 0, f and Y agree
located : (f X Y : ℕ → ℕ) (n i : ℕ) → i < n → f (X i) ≢ Y i → locator f X Y n (X i) ≡ 0
unfolding locator
located f X Y zero i l ne = absurd (omega arith)
located f X Y (suc n) i l ne = go (cases_eq i n) (eqb (f (X n)) (Y n)) refl (λ k. located f X Y n i k ne)
  where
    go : (i ≡ n) ⊎ (i ≢ n) → (b : Bool) → eqb (f (X n)) (Y n) ≡ b → (i < n → locator f X Y n (X i) ≡ 0)
        → cond b (locator f X Y n (X i)) ((X i ⊕ X n) ⊗ locator f X Y n (X i)) ≡ 0
    go (inl e) true t ih = absurd (ne (subst (λ k. f (X k) ≡ Y k) (sym e) (eqb-true (f (X n)) (Y n) t)))
    go (inl e) false t ih =
        ap (λ z. z ⊗ locator f X Y n (X i)) (sum_from_equal (X i) (X n) (ap X e)) ∙ zero_product (locator f X Y n (X i))
    go (inr q) true t ih = ih (omega arith)
    go (inr q) false t ih = ap (λ z. (X i ⊕ X n) ⊗ z) (ih (omega arith)) ∙ product_zero (X i ⊕ X n)

-- raised to a greater degree by factors x
raised : {f : ℕ → ℕ} (m k : ℕ) → IsMonic m f → (g : ℕ → ℕ) × IsMonic (k + m) g × ((x : ℕ) → f x ≡ 0 → g x ≡ 0)
raised {f} m zero p =
    let e : m ≡ 0 + m = omega arith in
    (f, subst (λ n. IsMonic n f) e p, (λ x h. h))
raised {f} m (suc k) p =
    let r = raised m k p in
    let e : suc (k + m) ≡ suc k + m = omega arith in
    let g = λ (x : ℕ). (x ⊕ 0) ⊗ r.0 x in
    (g, subst (λ n. IsMonic n g) e (linear_monic 0 r.1), (λ x h. ap (λ z. (x ⊕ 0) ⊗ z) (r.2 x h) ∙ product_zero (x ⊕ 0)))

-- what the system asks of the coefficients q and l at n points
pub record Solves (n : ℕ) (X Y : ℕ → ℕ) (q l : List ℕ) : Type 0 where
  pub at_each : (i : ℕ) → i < n → horner 0 q (X i) ≡ Y i ⊗ horner 1 l (X i)

-- f is below degree k, and differs from Y at no more than e of the n points X
pub record IsNear (n k e : ℕ) (X Y f : ℕ → ℕ) : Type 0 where
  pub poly : IsPoly k f
  pub few : differences n (λ i. f (X i)) Y ≤ e

-- ---- a near polynomial gives a solution
pub record Solution (n k e : ℕ) (X Y : ℕ → ℕ) : Type 0 where
  pub q : List ℕ
  pub l : List ℕ
  pub q_size : length q ≡ k + e
  pub l_size : length l ≡ e
  pub q_bytes : Bytes q
  pub l_bytes : Bytes l
  pub solves : Solves n X Y q l

pub solution_from_near : (n k e : ℕ) (X Y f : ℕ → ℕ) → IsNear n k e X Y f → Solution n k e X Y
solution_from_near n k e X Y f near =
    let d = differences n (λ i. f (X i)) Y in
    let sum : e - d + d ≡ e = omega (arith, near.few) in
    let r = raised d (e - d) (locator_monic f X Y n) in
    let g = r.0 in
    let m : IsMonic e g = subst (λ j. IsMonic j g) sum r.1 in
    let p : IsPoly (k + e) (λ x. f x ⊗ g x) = product_poly near.poly (monic_poly m) in
    record {
      q = p.cs;
      l = m.cs;
      q_size = p.size;
      l_size = m.size;
      q_bytes = p.bytes;
      l_bytes = m.bytes;
      solves = record { at_each = λ i h. sym (p.is (X i)) ∙ both g r.2 i h (cases_eq (f (X i)) (Y i)) ∙ ap (λ z. Y i ⊗ z) (m.is (X i)) };
    }
  where
    both : (g : ℕ → ℕ) → ((x : ℕ) → locator f X Y n x ≡ 0 → g x ≡ 0) → (i : ℕ) → i < n
        → (f (X i) ≡ Y i) ⊎ (f (X i) ≢ Y i) → f (X i) ⊗ g (X i) ≡ Y i ⊗ g (X i)
    both g h i l (inl same) = ap (λ z. z ⊗ g (X i)) same
    both g h i l (inr ne) =
        let gone : g (X i) ≡ 0 = h (X i) (located f X Y n i l ne) in
        ap (λ z. f (X i) ⊗ z) gone ∙ product_zero (f (X i)) ∙ sym (ap (λ z. Y i ⊗ z) gone ∙ product_zero (Y i))

-- ---- any solution gives the near polynomial
module _ (n k e : ℕ) (X Y f : ℕ → ℕ) (d : Apart n X) (bx : AreBytes n X) (by : AreBytes n Y)
    (room : k + (e + e) ≤ n) (near : IsNear n k e X Y f) (s : Solution n k e X Y) where
  l_monic : IsMonic e (horner 1 s.l)
  l_monic = subst (λ j. IsMonic j (horner 1 s.l)) s.l_size (monic_of s.l s.l_bytes)

  -- the quotient of the two is f, everywhere
  pub is_product : (x : ℕ) → horner 0 s.q x ≡ f x ⊗ horner 1 s.l x
  is_product x =
      poly_same (subst (λ j. IsPoly j (horner 0 s.q)) s.q_size (poly_of s.q s.q_bytes)) (product_poly near.poly (monic_poly l_monic))
      (picked (λ i. eqb (f (X i)) (Y i)) X n) (picked_distinct (λ i. eqb (f (X i)) (Y i)) X n d)
      (picked_each (λ i. eqb (f (X i)) (Y i)) X n (λ y. (y < 256) × (horner 0 s.q y ≡ f y ⊗ horner 1 s.l y))
      (λ i h t. (bx i h, s.solves.at_each i h ∙ ap (λ z. z ⊗ horner 1 s.l (X i)) (sym (eqb-true (f (X i)) (Y i) t)))))
      (omega (arith, agreeing (λ i. f (X i)) Y X n, near.few)) x

  -- where the divisor is not 0, the value is right
  pub right_there : (i : ℕ) → i < n → horner 1 s.l (X i) ≢ 0 → f (X i) ≡ Y i
  right_there i h ne =
      let v = horner 1 s.l (X i) in
      equal_from_sum (f (X i)) (Y i)
      (no_divisors v (f (X i) ⊕ Y i) (horner-lt 1 s.l (X i) (lit< tt) s.l_bytes) (sum-lt (f (X i)) (Y i) (poly-lt near.poly (X i)) (by i h)) ne
      (product_comm v (f (X i) ⊕ Y i) ∙ product_sum_left (f (X i)) (Y i) v
      ∙ sum_from_equal (f (X i) ⊗ v) (Y i ⊗ v) (sym (is_product (X i)) ∙ s.solves.at_each i h)))

  -- and it is 0 at no more than e points
  pub enough_there : k ≤ differences n (λ i. horner 1 s.l (X i)) (λ i. 0)
  enough_there =
      let at_most : length (picked (λ i. eqb (horner 1 s.l (X i)) 0) X n) ≤ e =
      monic_roots l_monic (picked (λ i. eqb (horner 1 s.l (X i)) 0) X n) (picked_distinct (λ i. eqb (horner 1 s.l (X i)) 0) X n d)
      (picked_each (λ i. eqb (horner 1 s.l (X i)) 0) X n (Zero (horner 1 s.l)) (λ i h t. root i h (eqb-true (horner 1 s.l (X i)) 0 t))) in
      omega (arith, agreeing (λ i. horner 1 s.l (X i)) (λ i. 0) X n)
    where
      root : (i : ℕ) → i < n → horner 1 s.l (X i) ≡ 0 → Zero (horner 1 s.l) (X i)
      root i h e = (bx i h, e)

-- ---- there is one near polynomial
pub near_only : (n k e : ℕ) (X Y f g : ℕ → ℕ) → Apart n X → AreBytes n X → k + (e + e) ≤ n
    → IsNear n k e X Y f → IsNear n k e X Y g → (x : ℕ) → f x ≡ g x
near_only n k e X Y f g d bx room p q x =
    poly_same p.poly q.poly (picked (λ i. eqb (f (X i)) (g (X i))) X n) (picked_distinct (λ i. eqb (f (X i)) (g (X i))) X n d)
    (picked_each (λ i. eqb (f (X i)) (g (X i))) X n (λ y. (y < 256) × (f y ≡ g y))
    (λ i h t. (bx i h, eqb-true (f (X i)) (g (X i)) t)))
    (omega (
      arith,
      agreeing (λ i. f (X i)) (λ i. g (X i)) X n,
      differences_triangle n (λ i. f (X i)) Y (λ i. g (X i)),
      differences_comm n Y (λ i. g (X i)),
      p.few,
      q.few,
    )) x
