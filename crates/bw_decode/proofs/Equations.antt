-- What a solution of the linear system says of polynomials.
use Rattle.std.proofs.Common.{ℕ, zero, suc, ◌≡◌, ◌<◌, ◌≤◌, ◌+◌, ◌-◌, refl, sym, ap, ◌∙◌, subst, List, [], ◌∷◌, length, get_or, ◌⊎◌, inl, inr, arith, slice_index}
use Rattle.std.proofs.lemmas.Bool.{cases_lt}
use lib.Bits.{xor_assoc}
use Rattle.gf256.specs.Field.{◌⊕◌, ◌⊗◌, power, inverse}
use Rattle.gf256.specs.Sums.{total}
use Rattle.gf256.proofs.Laws.{product_comm, product_assoc, product_sum, product_zero, zero_product, one_product, power_zero, power_suc, product-lt}
use Rattle.gf256.proofs.Sums.{total_agree, total_first, total_times, total_sum, total_zeros}
use Rattle.gf256.proofs.Ring.{product_sum_left, sum_cross, equal_from_sum, sum_from_equal}
use Rattle.gf_linear.specs.System.{IsSolution}
use Rattle.gf_linear.specs.Polynomial.{horner, Bytes, Apart}
use Rattle.gf_linear.specs.Lagrange.{basis, interpolated}
use Rattle.gf_linear.proofs.Poly.{IsPoly, poly_of}
use Rattle.gf_linear.proofs.Lagrange.{AreBytes, lagrange_agree, lagrange_only, lagrange_through, points_agree}
use Rattle.rs_stripe.specs.Weights.{weight}
use Rattle.bw_decode.specs.Equations.{coefficient, system}
use Rattle.bw_decode.proofs.Welch.{Solves}

pub value_total : (cs : List ℕ) (x : ℕ) → Bytes cs → horner 0 cs x ≡ total (length cs) (λ j. power x j ⊗ get_or cs j 0)
value_total [] x h = refl
value_total (c ∷ cs) x h =
    ap (λ z. c ⊕ x ⊗ z) (value_total cs x h.1)
    ∙ ap (λ z. z ⊕ x ⊗ total (length cs) (λ j. power x j ⊗ get_or cs j 0)) (sym (ap (λ z. z ⊗ c) (power_zero x) ∙ one_product c h.0))
    ∙ ap (λ z. power x 0 ⊗ c ⊕ z)
    (sym (total_times (length cs) x (λ j. power x j ⊗ get_or cs j 0))
    ∙ total_agree (length cs) (λ j. x ⊗ (power x j ⊗ get_or cs j 0)) (λ j. power x (suc j) ⊗ get_or cs j 0)
    (λ j l. sym (product_assoc x (power x j) (get_or cs j 0)) ∙ ap (λ z. z ⊗ get_or cs j 0) (sym (power_suc x j))))
    ∙ sym (total_first (length cs) (λ j. power x j ⊗ get_or (c ∷ cs) j 0))

pub monic_value : (cs : List ℕ) (x : ℕ) → horner 1 cs x ≡ horner 0 cs x ⊕ power x (length cs)
monic_value [] x = sym (power_zero x)
monic_value (c ∷ cs) x =
    ap (λ z. c ⊕ x ⊗ z) (monic_value cs x)
    ∙ ap (λ z. c ⊕ z) (product_sum x (horner 0 cs x) (power x (length cs)))
    ∙ sym (xor_assoc c (x ⊗ horner 0 cs x) (x ⊗ power x (length cs)))
    ∙ ap (λ z. c ⊕ x ⊗ horner 0 cs x ⊕ z) (sym (power_suc x (length cs)))

-- ---- Lagrange's formula is linear in the values
interpolated_sum : (n : ℕ) (X F G : ℕ → ℕ) (x : ℕ)
    → interpolated n X F x ⊕ interpolated n X G x ≡ interpolated n X (λ j. F j ⊕ G j) x
unfolding interpolated
interpolated_sum n X F G x =
    let w = λ (j : ℕ). basis X n j x ⊗ inverse (basis X n j (X j)) in
    sym (total_agree n (λ j. (F j ⊕ G j) ⊗ w j) (λ j. F j ⊗ w j ⊕ G j ⊗ w j) (λ j l. product_sum_left (F j) (G j) (w j))
    ∙ total_sum n (λ j. F j ⊗ w j) (λ j. G j ⊗ w j))

interpolated_times : (n : ℕ) (X F : ℕ → ℕ) (x a : ℕ)
    → interpolated n X F x ⊗ a ≡ interpolated n X (λ j. F j ⊗ a) x
unfolding interpolated
interpolated_times n X F x a =
    let w = λ (j : ℕ). basis X n j x ⊗ inverse (basis X n j (X j)) in
    product_comm (total n (λ j. F j ⊗ w j)) a ∙ sym (total_times n a (λ j. F j ⊗ w j))
    ∙ total_agree n (λ j. a ⊗ (F j ⊗ w j)) (λ j. (F j ⊗ a) ⊗ w j)
    (λ j l. sym (product_assoc a (F j) (w j)) ∙ ap (λ z. z ⊗ w j) (product_comm a (F j)))

interpolated_zeros : (n : ℕ) (X F : ℕ → ℕ) (x : ℕ) → ((j : ℕ) → F j ≡ 0) → interpolated n X F x ≡ 0
unfolding interpolated
interpolated_zeros n X F x none =
    let w = λ (j : ℕ). basis X n j x ⊗ inverse (basis X n j (X j)) in
    total_zeros n (λ j. F j ⊗ w j) (λ j l. ap (λ z. z ⊗ w j) (none j) ∙ zero_product (w j))

interpolated_total : (e n : ℕ) (X Y z : ℕ → ℕ) (x : ℕ)
    → total e (λ c. interpolated n X (λ j. Y j ⊗ power (X j) c) x ⊗ z c)
    ≡ interpolated n X (λ j. Y j ⊗ total e (λ c. power (X j) c ⊗ z c)) x
interpolated_total zero n X Y z x =
    sym (interpolated_zeros n X (λ j. Y j ⊗ 0) x (λ j. product_zero (Y j)))
interpolated_total (suc e) n X Y z x =
    let F = λ (j : ℕ). Y j ⊗ total e (λ c. power (X j) c ⊗ z c) in
    let G = λ (j : ℕ). (Y j ⊗ power (X j) e) ⊗ z e in
    ap (λ v. v ⊕ interpolated n X (λ j. Y j ⊗ power (X j) e) x ⊗ z e) (interpolated_total e n X Y z x)
    ∙ ap (λ v. interpolated n X F x ⊕ v) (interpolated_times n X (λ j. Y j ⊗ power (X j) e) x (z e))
    ∙ interpolated_sum n X F G x
    ∙ lagrange_agree n X (λ j. F j ⊕ G j) (λ j. Y j ⊗ (total e (λ c. power (X j) c ⊗ z c) ⊕ power (X j) e ⊗ z e))
    (λ j l.
    ap (λ v. F j ⊕ v) (product_assoc (Y j) (power (X j) e) (z e))
    ∙ sym (product_sum (Y j) (total e (λ c. power (X j) c ⊗ z c)) (power (X j) e ⊗ z e)))
    x

-- the sum of the products with some weights is Lagrange's formula
pub terms_interpolated : (n : ℕ) (X Y W T : ℕ → ℕ) (x c : ℕ)
    → ((j : ℕ) → j < n → W j ≡ weight X n j x) → ((j : ℕ) → j < n → T j ≡ W j ⊗ Y j)
    → total n (λ j. T j ⊗ power (X j) c) ≡ interpolated n X (λ j. Y j ⊗ power (X j) c) x
unfolding interpolated weight
terms_interpolated n X Y W T x c weights terms =
    total_agree n (λ j. T j ⊗ power (X j) c) (λ j. (Y j ⊗ power (X j) c) ⊗ weight X n j x)
    (λ j l.
    ap (λ z. z ⊗ power (X j) c) (terms j l ∙ ap (λ z. z ⊗ Y j) (weights j l))
    ∙ product_assoc (weight X n j x) (Y j) (power (X j) c) ∙ product_comm (weight X n j x) (Y j ⊗ power (X j) c))

-- the same points and values, written otherwise
pub coefficient_agree : (w : ℕ) (X Z Y V : ℕ → ℕ) (x z y v c : ℕ) → ((j : ℕ) → j < w → X j ≡ Z j)
    → ((j : ℕ) → j < w → Y j ≡ V j) → x ≡ z → y ≡ v → coefficient w X Y x y c ≡ coefficient w Z V z v c
coefficient_agree w X Z Y V x z y v c points values ex ey =
    let F = λ (j : ℕ). Y j ⊗ power (X j) c in
    let G = λ (j : ℕ). V j ⊗ power (Z j) c in
    ap (λ t. t ⊕ y ⊗ power x c)
    (points_agree w X Z F points x
    ∙ lagrange_agree w Z F G
    (λ j l. ap (λ t. t ⊗ power (X j) c) (values j l) ∙ ap (λ t. V j ⊗ power t c) (points j l)) x
    ∙ ap (interpolated w Z G) ex)
    ∙ ap (λ t. interpolated w Z G z ⊕ t) (ap (λ t. t ⊗ power x c) ey ∙ ap (λ t. v ⊗ power t c) ex)

-- ---- an equation's left side and its right side together
monic_times : (y x : ℕ) (l : List ℕ) → Bytes l
    → y ⊗ total (length l) (λ c. power x c ⊗ get_or l c 0) ⊕ y ⊗ power x (length l) ≡ y ⊗ horner 1 l x
monic_times y x l h =
    sym (product_sum y (total (length l) (λ c. power x c ⊗ get_or l c 0)) (power x (length l)))
    ∙ ap (λ v. y ⊗ v) (ap (λ v. v ⊕ power x (length l)) (sym (value_total l x h)) ∙ sym (monic_value l x))

pub equation_value : (w : ℕ) (X Y : ℕ → ℕ) (x y : ℕ) (l : List ℕ) → Bytes l
    → total (length l) (λ c. coefficient w X Y x y c ⊗ get_or l c 0) ⊕ coefficient w X Y x y (length l)
    ≡ interpolated w X (λ j. Y j ⊗ horner 1 l (X j)) x ⊕ y ⊗ horner 1 l x
equation_value w X Y x y l h =
    let e = length l in
    let z = λ (c : ℕ). get_or l c 0 in
    let A = λ (c : ℕ). interpolated w X (λ j. Y j ⊗ power (X j) c) x in
    let B = λ (c : ℕ). y ⊗ power x c in
    let V = λ (t : ℕ). total e (λ c. power t c ⊗ z c) in
    let left : total e (λ c. (A c ⊕ B c) ⊗ z c) ≡ interpolated w X (λ j. Y j ⊗ V (X j)) x ⊕ y ⊗ V x =
    total_agree e (λ c. (A c ⊕ B c) ⊗ z c) (λ c. A c ⊗ z c ⊕ B c ⊗ z c) (λ c a. product_sum_left (A c) (B c) (z c))
    ∙ total_sum e (λ c. A c ⊗ z c) (λ c. B c ⊗ z c)
    ∙ ap (λ v. v ⊕ total e (λ c. B c ⊗ z c)) (interpolated_total e w X Y z x)
    ∙ ap (λ v. interpolated w X (λ j. Y j ⊗ V (X j)) x ⊕ v)
    (total_agree e (λ c. B c ⊗ z c) (λ c. y ⊗ (power x c ⊗ z c)) (λ c a. product_assoc y (power x c) (z c))
    ∙ total_times e y (λ c. power x c ⊗ z c)) in
    ap (λ v. v ⊕ (A e ⊕ B e)) left
    ∙ sum_cross (interpolated w X (λ j. Y j ⊗ V (X j)) x) (y ⊗ V x) (A e) (B e)
    ∙ ap (λ v. v ⊕ (y ⊗ V x ⊕ B e))
    (interpolated_sum w X (λ j. Y j ⊗ V (X j)) (λ j. Y j ⊗ power (X j) e) x
    ∙ lagrange_agree w X (λ j. Y j ⊗ V (X j) ⊕ Y j ⊗ power (X j) e) (λ j. Y j ⊗ horner 1 l (X j))
    (λ j a. monic_times (Y j) (X j) l h) x)
    ∙ ap (λ v. interpolated w X (λ j. Y j ⊗ horner 1 l (X j)) x ⊕ v) (monic_times y x l h)

-- the second polynomial of a solution solves the system
pub solved_by : (r w : ℕ) (X Y : ℕ → ℕ) (q l : List ℕ) → length q ≡ w → Bytes q → Bytes l → w ≤ r
    → Apart r X → AreBytes r X → Solves r X Y q l
    → IsSolution (r - w) (length l) (system w X Y) (slice_index l)
solved_by r w X Y q l size hq hl room apart bx s i h =
    let F = λ (j : ℕ). Y j ⊗ horner 1 l (X j) in
    equal_from_sum (total (length l) (λ c. system w X Y i c ⊗ get_or l c 0)) (system w X Y i (length l))
    (equation_value w X Y (X (w + i)) (Y (w + i)) l hl
    ∙ sum_from_equal (interpolated w X F (X (w + i))) (Y (w + i) ⊗ horner 1 l (X (w + i)))
    (lagrange_only w X F (λ a b ha hb ne. apart a b (omega arith) (omega arith) ne) (λ a ha. bx a (omega arith))
    (subst (λ n. IsPoly n (horner 0 q)) size (poly_of q hq)) (λ j a. s.at_each j (omega arith)) (X (w + i))
    ∙ s.at_each (w + i) (omega arith)))

-- and with what solves it the polynomial through the first values, each times the locator's, has all
-- of them
pub read_from : (r w : ℕ) (X Y : ℕ → ℕ) (l : List ℕ) → Bytes l → w ≤ r → Apart r X → AreBytes r X
    → IsSolution (r - w) (length l) (system w X Y) (slice_index l)
    → (i : ℕ) → i < r → interpolated w X (λ j. Y j ⊗ horner 1 l (X j)) (X i) ≡ Y i ⊗ horner 1 l (X i)
read_from r w X Y l hl room apart bx s i h = go (cases_lt i w)
  where
    behind : (m : ℕ) → m < r - w
        → interpolated w X (λ j. Y j ⊗ horner 1 l (X j)) (X (w + m)) ≡ Y (w + m) ⊗ horner 1 l (X (w + m))
    behind m a =
        equal_from_sum (interpolated w X (λ j. Y j ⊗ horner 1 l (X j)) (X (w + m))) (Y (w + m) ⊗ horner 1 l (X (w + m)))
        (sym (equation_value w X Y (X (w + m)) (Y (w + m)) l hl)
        ∙ sum_from_equal (total (length l) (λ c. system w X Y m c ⊗ get_or l c 0)) (system w X Y m (length l)) (s m a))

    go : (i < w) ⊎ (w ≤ i) → interpolated w X (λ j. Y j ⊗ horner 1 l (X j)) (X i) ≡ Y i ⊗ horner 1 l (X i)
    go (inl a) =
        lagrange_through w X (λ j. Y j ⊗ horner 1 l (X j)) (λ a b ha hb ne. apart a b (omega arith) (omega arith) ne)
        (λ a ha. bx a (omega arith)) (λ j b. product-lt (Y j) (horner 1 l (X j))) i a
    go (inr a) =
        let at : w + (i - w) ≡ i = omega arith in
        subst (λ m. interpolated w X (λ j. Y j ⊗ horner 1 l (X j)) (X m) ≡ Y m ⊗ horner 1 l (X m)) at
        (behind (i - w) (omega arith))
