-- Lagrange's formula gives the one polynomial through the points.
use Rattle.std.proofs.Common.{ℕ, zero, suc, ◌≡◌, ◌≢◌, ◌<◌, ◌≤◌, ◌+◌, refl, sym, ap, ◌∙◌, subst, List, [], ◌∷◌, length, ◌⊎◌, inl, inr, arith, lit<, cond, eqb, eq-eqb, true, false, Bool, not, lit≤}
use Rattle.std.proofs.lemmas.Bool.{cases_eq, ne_eqb, eqb-true, eqb-false}
use lib.Bits.{xor_self}
use Rattle.gf256.specs.Field.{◌⊕◌, ◌⊗◌, inverse}
use Rattle.gf256.proofs.Laws.{product_comm, product_assoc, zero_product, product_zero, product_one, inverse_product}
use Rattle.gf256.proofs.Sums.{total_one, total_agree, whole_zero, whole_not_zero, whole_agree, whole-lt}
use Rattle.gf256.proofs.Ring.{sum-lt, equal_from_sum}
use Rattle.gf_linear.specs.Polynomial.{Apart, Each, Distinct}
use Rattle.gf_linear.specs.Lagrange.{factor, basis, interpolated}
use Rattle.gf_linear.specs.Differences.{differences}
use Rattle.gf_linear.proofs.Poly.{IsPoly, same_poly, times_poly, linear_poly, total_poly, constant_poly, poly_same, horner-lt}

-- ---- the numbers X i at which a test passes, from the highest i down
abbrev pub picked : (ℕ → Bool) → (ℕ → ℕ) → ℕ → List ℕ
picked p X zero = []
picked p X (suc n) = cond (p n) (X n ∷ picked p X n) (picked p X n)

pub picked_each : (p : ℕ → Bool) (X : ℕ → ℕ) (n : ℕ) (Q : ℕ → Type 0)
    → ((i : ℕ) → i < n → p i ≡ true → Q (X i)) → Each Q (picked p X n)
picked_each p X zero Q h = tt
picked_each p X (suc n) Q h = go (p n) refl (picked_each p X n Q (λ i l. h i (omega arith)))
  where
    go : (b : Bool) → p n ≡ b → Each Q (picked p X n)
        → Each Q (cond b (X n ∷ picked p X n) (picked p X n))
    go true e rest = (h n (omega arith) e, rest)
    go false e rest = rest

abbrev pub AreBytes : ℕ → (ℕ → ℕ) → Type 0
AreBytes n X = (i : ℕ) → i < n → X i < 256

pub picked_distinct : (p : ℕ → Bool) (X : ℕ → ℕ) (n : ℕ) → Apart n X → Distinct (picked p X n)
picked_distinct p X zero d = tt
picked_distinct p X (suc n) d =
    go (p n) (picked_distinct p X n (λ i j hi hj. d i j (omega arith) (omega arith)))
  where
    go : (b : Bool) → Distinct (picked p X n)
        → Distinct (cond b (X n ∷ picked p X n) (picked p X n))
    go true rest =
        (picked_each p X n (λ y. y ≢ X n) (λ i l t. d i n (omega arith) (omega arith) (omega arith)), rest)
    go false rest = rest

pub all_picked : (X : ℕ → ℕ) (n : ℕ) → length (picked (λ i. true) X n) ≡ n
all_picked X zero = refl
all_picked X (suc n) = ap suc (all_picked X n)

-- those that agree and those that do not
pub agreeing : (f g X : ℕ → ℕ) (n : ℕ)
    → length (picked (λ i. eqb (f i) (g i)) X n) + differences n f g ≡ n
agreeing f g X zero = refl
agreeing f g X (suc n) = go (eqb (f n) (g n)) (agreeing f g X n)
  where
    go : (b : Bool) → length (picked (λ i. eqb (f i) (g i)) X n) + differences n f g ≡ n
        → length (cond b (X n ∷ picked (λ i. eqb (f i) (g i)) X n) (picked (λ i. eqb (f i) (g i)) X n)) + (differences n f g + cond b 0 1) ≡ suc n
    go true e = omega arith
    go false e = omega arith

-- those that differ from 0 and those that do not
pub differing : (f g X : ℕ → ℕ) (n : ℕ)
    → length (picked (λ i. not (eqb (f i) (g i))) X n) ≡ differences n f g
differing f g X zero = refl
differing f g X (suc n) = go (eqb (f n) (g n)) (differing f g X n)
  where
    go : (b : Bool) → length (picked (λ i. not (eqb (f i) (g i))) X n) ≡ differences n f g
        → length (cond (not b) (X n ∷ picked (λ i. not (eqb (f i) (g i))) X n) (picked (λ i. not (eqb (f i) (g i))) X n)) ≡ differences n f g + cond b 0 1
    go true e = omega arith
    go false e = omega arith

pub differences_agree : (n : ℕ) (f g h : ℕ → ℕ) → ((i : ℕ) → i < n → f i ≡ g i)
    → differences n f h ≡ differences n g h
differences_agree zero f g h e = refl
differences_agree (suc n) f g h e =
    ap (λ z. z + cond (eqb (f n) (h n)) 0 1) (differences_agree n f g h (λ i l. e i (omega arith)))
    ∙ ap (λ z. differences n g h + cond (eqb z (h n)) 0 1) (e n (omega arith))

-- f differs from h no more often than f from g and g from h together
pub differences_triangle : (n : ℕ) (f g h : ℕ → ℕ)
    → differences n f h ≤ differences n f g + differences n g h
differences_triangle zero f g h = lit≤ tt
differences_triangle (suc n) f g h =
    go (eqb (f n) (h n)) (eqb (f n) (g n)) (eqb (g n) (h n)) refl refl refl (differences_triangle n f g h)
  where
    go : (a b c : Bool) → eqb (f n) (h n) ≡ a → eqb (f n) (g n) ≡ b → eqb (g n) (h n) ≡ c
        → differences n f h ≤ differences n f g + differences n g h
        → differences n f h + cond a 0 1 ≤ (differences n f g + cond b 0 1) + (differences n g h + cond c 0 1)
    go true b c ea eb ec ih = omega arith
    go false false c ea eb ec ih = omega arith
    go false true false ea eb ec ih = omega arith
    go false true true ea eb ec ih =
        absurd (eqb-false (f n) (h n) ea (eqb-true (f n) (g n) eb ∙ eqb-true (g n) (h n) ec))

eqb_comm : (a b : ℕ) → eqb a b ≡ eqb b a
eqb_comm a b = go (cases_eq a b)
  where
    go : (a ≡ b) ⊎ (a ≢ b) → eqb a b ≡ eqb b a
    go (inl e) = eq-eqb a b e ∙ sym (eq-eqb b a (sym e))
    go (inr ne) = ne_eqb a b ne ∙ sym (ne_eqb b a (λ q. ne (sym q)))

pub differences_comm : (n : ℕ) (f g : ℕ → ℕ) → differences n f g ≡ differences n g f
differences_comm zero f g = refl
differences_comm (suc n) f g =
    ap (λ z. z + cond (eqb (f n) (g n)) 0 1) (differences_comm n f g)
    ∙ ap (λ b. differences n g f + cond b 0 1) (eqb_comm (f n) (g n))

pub lagrange_agree : (n : ℕ) (X Y Z : ℕ → ℕ) → ((i : ℕ) → i < n → Y i ≡ Z i) → (x : ℕ)
    → interpolated n X Y x ≡ interpolated n X Z x
unfolding interpolated
lagrange_agree n X Y Z h x =
    total_agree n (λ i. Y i ⊗ (basis X n i x ⊗ inverse (basis X n i (X i)))) (λ i. Z i ⊗ (basis X n i x ⊗ inverse (basis X n i (X i))))
    (λ i l. ap (λ z. z ⊗ (basis X n i x ⊗ inverse (basis X n i (X i)))) (h i l))

pub poly-lt : {n : ℕ} {f : ℕ → ℕ} → IsPoly n f → (x : ℕ) → f x < 256
poly-lt p x = subst (λ z. z < 256) (sym (p.is x)) (horner-lt 0 p.cs x (lit< tt) p.bytes)

pub factor_at : (X : ℕ → ℕ) (i x : ℕ) → factor X i x i ≡ 1
factor_at X i x = ap (λ b. cond b 1 (x ⊕ X i)) (eq-eqb i i refl)

pub factor_off : (X : ℕ → ℕ) (i x j : ℕ) → j ≢ i → factor X i x j ≡ x ⊕ X j
factor_off X i x j ne = ap (λ b. cond b 1 (x ⊕ X j)) (ne_eqb j i ne)

-- the basis is a polynomial below degree n
before : (X : ℕ → ℕ) (i m : ℕ) → m ≤ i → IsPoly (suc m) (λ x. basis X m i x)
before X i zero h = constant_poly 1 (lit< tt)
before X i (suc m) h =
    let ne : m ≢ i = omega arith in
    same_poly
    (λ x. ap (λ z. basis X m i x ⊗ z) (factor_off X i x m ne) ∙ product_comm (basis X m i x) (x ⊕ X m))
    (linear_poly (X m) (before X i m (omega arith)))

after : (X : ℕ → ℕ) (i m : ℕ) → i < m → IsPoly m (λ x. basis X m i x)
after X i zero h = absurd (omega arith)
after X i (suc m) h = go (cases_eq m i) (after X i m)
  where
    go : (m ≡ i) ⊎ (m ≢ i) → (i < m → IsPoly m (λ x. basis X m i x))
        → IsPoly (suc m) (λ x. basis X (suc m) i x)
    go (inl e) ih =
        same_poly
        (λ x. ap (λ z. basis X m i x ⊗ z) (subst (λ k. factor X i x k ≡ 1) (sym e) (factor_at X i x))
        ∙ product_one (basis X m i x) (whole-lt m (factor X i x)))
        (before X i m (omega arith))
    go (inr ne) ih =
        same_poly
        (λ x. ap (λ z. basis X m i x ⊗ z) (factor_off X i x m ne) ∙ product_comm (basis X m i x) (x ⊕ X m))
        (linear_poly (X m) (ih (omega arith)))

term : (ℕ → ℕ) → (ℕ → ℕ) → ℕ → ℕ → ℕ → ℕ
term X Y n i x = Y i ⊗ (basis X n i x ⊗ inverse (basis X n i (X i)))

pub lagrange_poly : (n : ℕ) (X Y : ℕ → ℕ) → IsPoly n (interpolated n X Y)
unfolding interpolated term
lagrange_poly n X Y = total_poly n n (term X Y n) each
  where
    each : (i : ℕ) → i < n → IsPoly n (term X Y n i)
    each i h =
        let a = inverse (basis X n i (X i)) in
        same_poly
        (λ x. sym (product_assoc (Y i) (basis X n i x) a) ∙ product_comm (Y i ⊗ basis X n i x) a
        ∙ sym (product_assoc a (Y i) (basis X n i x)))
        (times_poly (a ⊗ Y i) (after X i n h))

pub basis_own : (n : ℕ) (X : ℕ → ℕ) (i : ℕ) → i < n → Apart n X → AreBytes n X
    → basis X n i (X i) ≢ 0
basis_own n X i h d b = whole_not_zero n (factor X i (X i)) each
  where
    each : (j : ℕ) → j < n → (factor X i (X i) j < 256) × (factor X i (X i) j ≢ 0)
    each j l = go (cases_eq j i)
      where
        go : (j ≡ i) ⊎ (j ≢ i) → (factor X i (X i) j < 256) × (factor X i (X i) j ≢ 0)
        go (inl e) =
            subst (λ k. (factor X i (X i) k < 256) × (factor X i (X i) k ≢ 0)) (sym e)
            (subst (λ v. (v < 256) × (v ≢ 0)) (sym (factor_at X i (X i))) (lit< tt, (λ q. cc)))
        go (inr ne) =
            subst (λ v. (v < 256) × (v ≢ 0)) (sym (factor_off X i (X i) j ne))
            (sum-lt (X i) (X j) (b i h) (b j l), (λ q. d j i l h ne (sym (equal_from_sum (X i) (X j) q))))

basis_other : (n : ℕ) (X : ℕ → ℕ) (i m : ℕ) → m < n → i ≢ m → basis X n i (X m) ≡ 0
basis_other n X i m h ne =
    whole_zero n (factor X i (X m)) m h
    (factor_off X i (X m) m (λ q. ne (sym q)) ∙ xor_self (X m))

pub lagrange_through : (n : ℕ) (X Y : ℕ → ℕ) → Apart n X → AreBytes n X → AreBytes n Y
    → (m : ℕ) → m < n → interpolated n X Y (X m) ≡ Y m
unfolding interpolated
lagrange_through n X Y d bx by m h =
    total_one n (λ i. Y i ⊗ (basis X n i (X m) ⊗ inverse (basis X n i (X i)))) m h others
    ∙ ap (λ z. Y m ⊗ z) (inverse_product (basis X n m (X m)) (whole-lt n (factor X m (X m))) (basis_own n X m h d bx))
    ∙ product_one (Y m) (by m h)
  where
    others : (i : ℕ) → i < n → i ≢ m → Y i ⊗ (basis X n i (X m) ⊗ inverse (basis X n i (X i))) ≡ 0
    others i l ne =
        ap (λ z. Y i ⊗ (z ⊗ inverse (basis X n i (X i)))) (basis_other n X i m h ne)
        ∙ ap (λ z. Y i ⊗ z) (zero_product (inverse (basis X n i (X i)))) ∙ product_zero (Y i)

-- it is the only polynomial below degree n that has these values
pub lagrange_only : (n : ℕ) (X Y : ℕ → ℕ) → Apart n X → AreBytes n X → {f : ℕ → ℕ} → IsPoly n f
    → ((i : ℕ) → i < n → f (X i) ≡ Y i) → (x : ℕ) → interpolated n X Y x ≡ f x
lagrange_only n X Y d bx {f} p h x =
    lagrange_agree n X Y (λ i. f (X i)) (λ i l. sym (h i l)) x
    ∙ poly_same (lagrange_poly n X (λ i. f (X i))) p (picked (λ i. true) X n) (picked_distinct (λ i. true) X n d)
    (picked_each (λ i. true) X n (λ y. (y < 256) × (interpolated n X (λ i. f (X i)) y ≡ f y))
    (λ i l t. (bx i l, lagrange_through n X (λ i. f (X i)) d bx (λ i l. value_byte i l) i l)))
    (omega (arith, all_picked X n)) x
  where
    value_byte : (i : ℕ) → i < n → f (X i) < 256
    value_byte i l = poly-lt p (X i)

-- only the values at the first n places count
basis_agree : (n i : ℕ) (X Z : ℕ → ℕ) (x : ℕ) → ((i : ℕ) → i < n → X i ≡ Z i)
    → basis X n i x ≡ basis Z n i x
basis_agree n i X Z x h =
    whole_agree n (factor X i x) (factor Z i x) (λ j l. ap (λ z. cond (eqb j i) 1 (x ⊕ z)) (h j l))

pub points_agree : (n : ℕ) (X Z Y : ℕ → ℕ) → ((i : ℕ) → i < n → X i ≡ Z i) → (x : ℕ)
    → interpolated n X Y x ≡ interpolated n Z Y x
unfolding interpolated
points_agree n X Z Y h x =
    total_agree n (λ i. Y i ⊗ (basis X n i x ⊗ inverse (basis X n i (X i)))) (λ i. Y i ⊗ (basis Z n i x ⊗ inverse (basis Z n i (Z i))))
    (λ i l.
    ap (λ z. Y i ⊗ (z ⊗ inverse (basis X n i (X i)))) (basis_agree n i X Z x h)
    ∙ ap (λ z. Y i ⊗ (basis Z n i x ⊗ inverse z)) (basis_agree n i X Z (X i) h ∙ ap (basis Z n i) (h i l)))

pub differences_same : (n : ℕ) (f g : ℕ → ℕ) → f n ≡ g n
    → differences (n + 1) f g ≡ differences n f g
differences_same n f g e =
    let more : n + 1 ≡ suc n = omega arith in
    let none : differences n f g + 0 ≡ differences n f g = omega arith in
    ap (λ k. differences k f g) more ∙ ap (λ b. differences n f g + cond b 0 1) (eq-eqb (f n) (g n) e) ∙ none

pub differences_more : (n : ℕ) (f g : ℕ → ℕ) → f n ≢ g n
    → differences (n + 1) f g ≡ differences n f g + 1
differences_more n f g ne =
    let more : n + 1 ≡ suc n = omega arith in
    ap (λ k. differences k f g) more ∙ ap (λ b. differences n f g + cond b 0 1) (ne_eqb (f n) (g n) ne)
