-- Polynomials by their coefficients: roots, sums and products.
use Rattle.std.proofs.Common.{ℕ, zero, suc, ◌≡◌, ◌≢◌, ◌<◌, ◌≤◌, ◌+◌, ◌-◌, refl, sym, ap, ◌∙◌, subst, List, [], ◌∷◌, length, ◌⊎◌, inl, inr, arith, lit<}
use Rattle.std.proofs.lemmas.Bool.{cases_lt}
use lib.Bits.{xor_assoc, xor_zero_r}
use Rattle.std.proofs.lemmas.Nat.{xor_comm}
use Rattle.gf256.specs.Field.{◌⊕◌, ◌⊗◌}
use Rattle.gf256.specs.Sums.{total}
use Rattle.gf256.proofs.Laws.{product_assoc, product_sum, zero_product, product_zero, no_divisors, product-lt}
use Rattle.gf256.proofs.Ring.{sum-lt, sum_cross, sum_same, equal_from_sum, sum_from_equal, product_sum_left, product_left, difference}
use Rattle.gf_linear.specs.Polynomial.{value, horner, Bytes, Each, Distinct}

pub value_is : (cs : List ℕ) (x : ℕ) → value cs x ≡ horner 0 cs x
value_is [] x = refl
value_is (c ∷ cs) x = ap (λ v. c ⊕ x ⊗ v) (value_is cs x)

pub horner-lt : (t : ℕ) (cs : List ℕ) (x : ℕ) → t < 256 → Bytes cs → horner t cs x < 256
horner-lt t [] x ht h = ht
horner-lt t (c ∷ cs) x ht h = sum-lt c (x ⊗ horner t cs x) h.0 (product-lt x (horner t cs x))

-- ---- the quotient by x + a
abbrev pub quotient : ℕ → List ℕ → ℕ → List ℕ
quotient t [] a = []
quotient t (c ∷ cs) a = horner t (c ∷ cs) a ∷ quotient t cs a

pub length-quotient : (t : ℕ) (cs : List ℕ) (a : ℕ) → length (quotient t cs a) ≡ length cs
length-quotient t [] a = refl
length-quotient t (c ∷ cs) a = ap suc (length-quotient t cs a)

pub Bytes-quotient : (t : ℕ) (cs : List ℕ) (a : ℕ) → t < 256 → Bytes cs → Bytes (quotient t cs a)
Bytes-quotient t [] a ht h = tt
Bytes-quotient t (c ∷ cs) a ht h = (horner-lt t (c ∷ cs) a ht h, Bytes-quotient t cs a ht h.1)

pub divided : (t c : ℕ) (cs : List ℕ) (a x : ℕ)
    → horner t (c ∷ cs) x ⊕ horner t (c ∷ cs) a ≡ (x ⊕ a) ⊗ horner t (quotient t cs a) x
divided t c [] a x = sum_same c (x ⊗ t) (a ⊗ t) ∙ sym (product_sum_left x a t)
divided t c (d ∷ ds) a x =
    let v = horner t (d ∷ ds) x in
    let u = horner t (d ∷ ds) a in
    let w = horner t (quotient t ds a) x in
    sum_same c (x ⊗ v) (a ⊗ u)
    ∙ difference x a v u
    ∙ ap (λ z. (x ⊕ a) ⊗ u ⊕ x ⊗ z) (divided t d ds a x)
    ∙ ap (λ z. (x ⊕ a) ⊗ u ⊕ z) (product_left x (x ⊕ a) w)
    ∙ sym (product_sum (x ⊕ a) u (x ⊗ w))

-- ---- roots
abbrev pub Root : ℕ → List ℕ → ℕ → Type 0
Root t cs x = (x < 256) × (horner t cs x ≡ 0)

-- a root of the whole other than a is one of the quotient
root_left : (t c : ℕ) (cs : List ℕ) (a x : ℕ) → t < 256 → Bytes cs → Root t (c ∷ cs) a
    → Root t (c ∷ cs) x → x ≢ a
    → Root t (quotient t cs a) x
root_left t c cs a x ht h ra rx ne = (
  rx.0,
  no_divisors (x ⊕ a) (horner t (quotient t cs a) x) (sum-lt x a rx.0 ra.0)
      (horner-lt t (quotient t cs a) x ht (Bytes-quotient t cs a ht h))
      (λ e. ne (equal_from_sum x a e))
      (sym (divided t c cs a x) ∙ ap (λ z. z ⊕ horner t (c ∷ cs) a) rx.1 ∙ ra.1),
)

roots_left : (t c : ℕ) (cs : List ℕ) (a : ℕ) (xs : List ℕ) → t < 256 → Bytes cs → Root t (c ∷ cs) a
    → Each (λ y. y ≢ a) xs → Each (Root t (c ∷ cs)) xs → Each (Root t (quotient t cs a)) xs
roots_left t c cs a [] ht h ra ne rs = tt
roots_left t c cs a (x ∷ xs) ht h ra ne rs =
    (root_left t c cs a x ht h ra rs.0 ne.0, roots_left t c cs a xs ht h ra ne.1 rs.1)

-- n coefficients and t: with n + 1 roots, t is 0
pub top_zero : (t : ℕ) (cs xs : List ℕ) → t < 256 → Bytes cs → Distinct xs → Each (Root t cs) xs
    → suc (length cs) ≤ length xs → t ≡ 0
top_zero t [] [] ht h d r e = absurd (omega arith)
top_zero t [] (a ∷ bs) ht h d r e = r.0.1
top_zero t (c ∷ cs) [] ht h d r e = absurd (omega arith)
top_zero t (c ∷ cs) (a ∷ bs) ht h d r e =
    let l : suc (length (quotient t cs a)) ≤ length bs = omega (arith, e, length-quotient t cs a) in
    top_zero t (quotient t cs a) bs ht (Bytes-quotient t cs a ht h.1) d.1 (roots_left t c cs a bs ht h.1 r.0 d.0 r.1) l

-- n coefficients with n roots: the value is 0 everywhere
pub all_zero : (cs xs : List ℕ) → Bytes cs → Distinct xs → Each (Root 0 cs) xs
    → length cs ≤ length xs → (x : ℕ) → horner 0 cs x ≡ 0
all_zero [] xs h d r e x = refl
all_zero (c ∷ cs) [] h d r e x = absurd (omega arith)
all_zero (c ∷ cs) (a ∷ bs) h d r e x =
    let l : length (quotient 0 cs a) ≤ length bs = omega (arith, e, length-quotient 0 cs a) in
    let q = all_zero (quotient 0 cs a) bs (Bytes-quotient 0 cs a (lit< tt) h.1) d.1 (roots_left 0 c cs a bs (lit< tt) h.1 r.0 d.0 r.1) l x in
    equal_from_sum (horner 0 (c ∷ cs) x) (horner 0 (c ∷ cs) a)
    (divided 0 c cs a x ∙ ap (λ z. (x ⊕ a) ⊗ z) q ∙ product_zero (x ⊕ a))
    ∙ r.0.1

-- ---- functions that a polynomial computes
-- a polynomial below degree n
pub record IsPoly (n : ℕ) (f : ℕ → ℕ) : Type 0 where
  pub cs : List ℕ
  pub size : length cs ≡ n
  pub bytes : Bytes cs
  pub is : (x : ℕ) → f x ≡ horner 0 cs x

-- a polynomial of degree n with the leading coefficient 1
pub record IsMonic (n : ℕ) (f : ℕ → ℕ) : Type 0 where
  pub cs : List ℕ
  pub size : length cs ≡ n
  pub bytes : Bytes cs
  pub is : (x : ℕ) → f x ≡ horner 1 cs x

abbrev pub zeros : ℕ → List ℕ
zeros zero = []
zeros (suc n) = 0 ∷ zeros n

abbrev pub plus : List ℕ → List ℕ → List ℕ
plus [] ds = ds
plus (c ∷ cs) [] = c ∷ cs
plus (c ∷ cs) (d ∷ ds) = (c ⊕ d) ∷ plus cs ds

abbrev pub times : ℕ → List ℕ → List ℕ
times a [] = []
times a (c ∷ cs) = a ⊗ c ∷ times a cs

-- the coefficients of (x + a) * cs + r
abbrev pub by_linear : ℕ → ℕ → ℕ → List ℕ → List ℕ
by_linear t r a [] = (r ⊕ a ⊗ t) ∷ []
by_linear t r a (c ∷ cs) = (r ⊕ a ⊗ c) ∷ by_linear t c a cs

length-zeros : (n : ℕ) → length (zeros n) ≡ n
length-zeros zero = refl
length-zeros (suc n) = ap suc (length-zeros n)

bytes_zeros : (n : ℕ) → Bytes (zeros n)
bytes_zeros zero = tt
bytes_zeros (suc n) = (lit< tt, bytes_zeros n)

zeros_zero : (n x : ℕ) → horner 0 (zeros n) x ≡ 0
zeros_zero zero x = refl
zeros_zero (suc n) x = ap (λ z. 0 ⊕ x ⊗ z) (zeros_zero n x) ∙ product_zero x

length-plus : (cs ds : List ℕ) → length cs ≡ length ds → length (plus cs ds) ≡ length ds
length-plus [] ds e = refl
length-plus (c ∷ cs) [] e = e
length-plus (c ∷ cs) (d ∷ ds) e = ap suc (length-plus cs ds (omega arith))

bytes_plus : (cs ds : List ℕ) → Bytes cs → Bytes ds → Bytes (plus cs ds)
bytes_plus [] ds p q = q
bytes_plus (c ∷ cs) [] p q = p
bytes_plus (c ∷ cs) (d ∷ ds) p q = (sum-lt c d p.0 q.0, bytes_plus cs ds p.1 q.1)

plus_value : (cs ds : List ℕ) (x : ℕ) → horner 0 (plus cs ds) x ≡ horner 0 cs x ⊕ horner 0 ds x
plus_value [] ds x = refl
plus_value (c ∷ cs) [] x = sym (xor_zero_r (horner 0 (c ∷ cs) x))
plus_value (c ∷ cs) (d ∷ ds) x =
    ap (λ z. c ⊕ d ⊕ x ⊗ z) (plus_value cs ds x)
    ∙ ap (λ z. c ⊕ d ⊕ z) (product_sum x (horner 0 cs x) (horner 0 ds x))
    ∙ sum_cross c d (x ⊗ horner 0 cs x) (x ⊗ horner 0 ds x)

length-times : (a : ℕ) (cs : List ℕ) → length (times a cs) ≡ length cs
length-times a [] = refl
length-times a (c ∷ cs) = ap suc (length-times a cs)

bytes_times : (a : ℕ) (cs : List ℕ) → Bytes (times a cs)
bytes_times a [] = tt
bytes_times a (c ∷ cs) = (product-lt a c, bytes_times a cs)

times_value : (a : ℕ) (cs : List ℕ) (x : ℕ) → horner 0 (times a cs) x ≡ a ⊗ horner 0 cs x
times_value a [] x = sym (product_zero a)
times_value a (c ∷ cs) x =
    ap (λ z. a ⊗ c ⊕ x ⊗ z) (times_value a cs x)
    ∙ ap (λ z. a ⊗ c ⊕ z) (product_left x a (horner 0 cs x))
    ∙ sym (product_sum a c (x ⊗ horner 0 cs x))

length-by_linear : (t r a : ℕ) (cs : List ℕ) → length (by_linear t r a cs) ≡ suc (length cs)
length-by_linear t r a [] = refl
length-by_linear t r a (c ∷ cs) = ap suc (length-by_linear t c a cs)

bytes_by_linear : (t r a : ℕ) (cs : List ℕ) → r < 256 → Bytes cs → Bytes (by_linear t r a cs)
bytes_by_linear t r a [] hr h = (sum-lt r (a ⊗ t) hr (product-lt a t), tt)
bytes_by_linear t r a (c ∷ cs) hr h =
    (sum-lt r (a ⊗ c) hr (product-lt a c), bytes_by_linear t c a cs h.0 h.1)

linear_value : (t r a : ℕ) (cs : List ℕ) (x : ℕ)
    → horner t (by_linear t r a cs) x ≡ r ⊕ (x ⊕ a) ⊗ horner t cs x
linear_value t r a [] x =
    xor_assoc r (a ⊗ t) (x ⊗ t)
    ∙ ap (λ z. r ⊕ z) (xor_comm (a ⊗ t) (x ⊗ t) ∙ sym (product_sum_left x a t))
linear_value t r a (c ∷ cs) x =
    let m = horner t cs x in
    ap (λ z. r ⊕ a ⊗ c ⊕ x ⊗ z) (linear_value t c a cs x)
    ∙ xor_assoc r (a ⊗ c) (x ⊗ (c ⊕ (x ⊕ a) ⊗ m))
    ∙ ap (λ z. r ⊕ z)
    (ap (λ z. a ⊗ c ⊕ z) (product_sum x c ((x ⊕ a) ⊗ m))
    ∙ sym (xor_assoc (a ⊗ c) (x ⊗ c) (x ⊗ ((x ⊕ a) ⊗ m)))
    ∙ ap (λ z. z ⊕ x ⊗ ((x ⊕ a) ⊗ m)) (xor_comm (a ⊗ c) (x ⊗ c) ∙ sym (product_sum_left x a c))
    ∙ ap (λ z. (x ⊕ a) ⊗ c ⊕ z) (product_left x (x ⊕ a) m)
    ∙ sym (product_sum (x ⊕ a) c (x ⊗ m)))

-- ---- what has these forms
pub zero_poly : (n : ℕ) → IsPoly n (λ x. 0)
zero_poly n =
    record { cs = zeros n; size = length-zeros n; bytes = bytes_zeros n; is = λ x. sym (zeros_zero n x) }

pub sum_poly : {n : ℕ} {f g : ℕ → ℕ} → IsPoly n f → IsPoly n g → IsPoly n (λ x. f x ⊕ g x)
sum_poly {n} {f} {g} p q = record {
  cs = plus p.cs q.cs;
  size = length-plus p.cs q.cs (p.size ∙ sym q.size) ∙ q.size;
  bytes = bytes_plus p.cs q.cs p.bytes q.bytes;
  is = λ x. ap (λ z. z ⊕ g x) (p.is x) ∙ ap (λ z. horner 0 p.cs x ⊕ z) (q.is x) ∙ sym (plus_value p.cs q.cs x);
}

pub times_poly : {n : ℕ} {f : ℕ → ℕ} (a : ℕ) → IsPoly n f → IsPoly n (λ x. a ⊗ f x)
times_poly a p = record {
  cs = times a p.cs;
  size = length-times a p.cs ∙ p.size;
  bytes = bytes_times a p.cs;
  is = λ x. ap (λ z. a ⊗ z) (p.is x) ∙ sym (times_value a p.cs x);
}

pub linear_poly : {n : ℕ} {f : ℕ → ℕ} (a : ℕ) → IsPoly n f → IsPoly (suc n) (λ x. (x ⊕ a) ⊗ f x)
linear_poly a p = record {
  cs = by_linear 0 0 a p.cs;
  size = length-by_linear 0 0 a p.cs ∙ ap suc p.size;
  bytes = bytes_by_linear 0 0 a p.cs (lit< tt) p.bytes;
  is = λ x. ap (λ z. (x ⊕ a) ⊗ z) (p.is x) ∙ sym (linear_value 0 0 a p.cs x);
}

pub linear_monic : {n : ℕ} {f : ℕ → ℕ} (a : ℕ) → IsMonic n f → IsMonic (suc n) (λ x. (x ⊕ a) ⊗ f x)
linear_monic a p = record {
  cs = by_linear 1 0 a p.cs;
  size = length-by_linear 1 0 a p.cs ∙ ap suc p.size;
  bytes = bytes_by_linear 1 0 a p.cs (lit< tt) p.bytes;
  is = λ x. ap (λ z. (x ⊕ a) ⊗ z) (p.is x) ∙ sym (linear_value 1 0 a p.cs x);
}

pub one_monic : IsMonic 0 (λ x. 1)
one_monic = record { cs = []; size = refl; bytes = tt; is = λ x. refl }

pub constant_poly : (a : ℕ) → a < 256 → IsPoly 1 (λ x. a)
constant_poly a h =
    record { cs = a ∷ []; size = refl; bytes = (h, tt); is = λ x. sym (ap (λ z. a ⊕ z) (product_zero x) ∙ xor_zero_r a) }

pub same_poly : {n : ℕ} {f g : ℕ → ℕ} → ((x : ℕ) → g x ≡ f x) → IsPoly n f → IsPoly n g
same_poly e p = record { cs = p.cs; size = p.size; bytes = p.bytes; is = λ x. e x ∙ p.is x }

pub poly_of : (cs : List ℕ) → Bytes cs → IsPoly (length cs) (horner 0 cs)
poly_of cs h = record { cs = cs; size = refl; bytes = h; is = λ x. refl }

append_zero : (cs : List ℕ)
    → (ds : List ℕ) × (length ds ≡ suc (length cs)) × (Bytes cs → Bytes ds) × ((x : ℕ) → horner 0 cs x ≡ horner 0 ds x)
append_zero [] = (0 ∷ [], refl, (λ h. (lit< tt, tt)), (λ x. sym (product_zero x)))
append_zero (c ∷ cs) =
    let r = append_zero cs in
    (c ∷ r.0, ap suc r.1, (λ h. (h.0, r.2 h.1)), (λ x. ap (λ z. c ⊕ x ⊗ z) (r.3 x)))

pub padded_one : {n : ℕ} {f : ℕ → ℕ} → IsPoly n f → IsPoly (suc n) f
padded_one p =
    let r = append_zero p.cs in
    record { cs = r.0; size = r.1 ∙ ap suc p.size; bytes = r.2 p.bytes; is = λ x. p.is x ∙ r.3 x }

padded_by : {f : ℕ → ℕ} (n k : ℕ) → IsPoly n f → IsPoly (k + n) f
padded_by {f} n zero p =
    let e : n ≡ 0 + n = omega arith in
    subst (λ m. IsPoly m f) e p
padded_by {f} n (suc k) p =
    let e : suc (k + n) ≡ suc k + n = omega arith in
    subst (λ m. IsPoly m f) e (padded_one (padded_by n k p))

pub padded : {f : ℕ → ℕ} (n m : ℕ) → n ≤ m → IsPoly n f → IsPoly m f
padded {f} n m h p =
    let e : m - n + n ≡ m = omega arith in
    subst (λ k. IsPoly k f) e (padded_by n (m - n) p)

pub total_poly : (k n : ℕ) (f : ℕ → ℕ → ℕ) → ((i : ℕ) → i < k → IsPoly n (f i))
    → IsPoly n (λ x. total k (λ i. f i x))
total_poly zero n f h = zero_poly n
total_poly (suc k) n f h =
    sum_poly (total_poly k n f (λ i l. h i (omega arith))) (h k (omega arith))

by_x : {n : ℕ} {f : ℕ → ℕ} → IsPoly n f → IsPoly (suc n) (λ x. x ⊗ f x)
by_x {n} {f} p = same_poly (λ x. ap (λ z. z ⊗ f x) (sym (xor_zero_r x))) (linear_poly 0 p)

-- the product of a polynomial below degree n and one below degree m + 1
product_of : (cs : List ℕ) (m : ℕ) (g : ℕ → ℕ) → Bytes cs → IsPoly (suc m) g
    → IsPoly (length cs + m) (λ x. horner 0 cs x ⊗ g x)
product_of [] m g h p = same_poly (λ x. zero_product (g x)) (zero_poly (0 + m))
product_of (c ∷ cs) m g h p =
    let e : suc (length cs + m) ≡ suc (length cs) + m = omega arith in
    let first : IsPoly (suc (length cs) + m) (λ x. c ⊗ g x) = padded (suc m) (suc (length cs) + m) (omega arith) (times_poly c p) in
    let rest : IsPoly (suc (length cs) + m) (λ x. x ⊗ (horner 0 cs x ⊗ g x)) =
    subst (λ k. IsPoly k (λ x. x ⊗ (horner 0 cs x ⊗ g x))) e (by_x (product_of cs m g h.1 p)) in
    same_poly
    (λ x. product_sum_left c (x ⊗ horner 0 cs x) (g x) ∙ ap (λ z. c ⊗ g x ⊕ z) (product_assoc x (horner 0 cs x) (g x)))
    (sum_poly first rest)

pub product_poly : {n m : ℕ} {f g : ℕ → ℕ} → IsPoly n f → IsPoly (suc m) g
    → IsPoly (n + m) (λ x. f x ⊗ g x)
product_poly {n} {m} {f} {g} p q =
    subst (λ k. IsPoly (k + m) (λ x. f x ⊗ g x)) p.size
    (same_poly (λ x. ap (λ z. z ⊗ g x) (p.is x)) (product_of p.cs m g p.bytes q))

-- a polynomial with a leading 1 is one below the next degree
append_one : (cs : List ℕ)
    → (ds : List ℕ) × (length ds ≡ suc (length cs)) × (Bytes cs → Bytes ds) × ((x : ℕ) → horner 1 cs x ≡ horner 0 ds x)
append_one [] = (1 ∷ [], refl, (λ h. (lit< tt, tt)), (λ x. sym (ap (λ z. 1 ⊕ z) (product_zero x))))
append_one (c ∷ cs) =
    let r = append_one cs in
    (c ∷ r.0, ap suc r.1, (λ h. (h.0, r.2 h.1)), (λ x. ap (λ z. c ⊕ x ⊗ z) (r.3 x)))

pub monic_poly : {n : ℕ} {f : ℕ → ℕ} → IsMonic n f → IsPoly (suc n) f
monic_poly p =
    let r = append_one p.cs in
    record { cs = r.0; size = r.1 ∙ ap suc p.size; bytes = r.2 p.bytes; is = λ x. p.is x ∙ r.3 x }

pub monic_of : (cs : List ℕ) → Bytes cs → IsMonic (length cs) (horner 1 cs)
monic_of cs h = record { cs = cs; size = refl; bytes = h; is = λ x. refl }

-- ---- roots of functions
abbrev pub Zero : (ℕ → ℕ) → ℕ → Type 0
Zero f x = (x < 256) × (f x ≡ 0)

pub poly_zero : {n : ℕ} {f : ℕ → ℕ} → IsPoly n f → (xs : List ℕ) → Distinct xs → Each (Zero f) xs
    → n ≤ length xs → (x : ℕ) → f x ≡ 0
poly_zero {n} {f} p xs d r h x =
    p.is x ∙ all_zero p.cs xs p.bytes d (roots xs r) (omega (arith, p.size)) x
  where
    roots : (xs : List ℕ) → Each (Zero f) xs → Each (Root 0 p.cs) xs
    roots [] r = tt
    roots (x ∷ xs) r = ((r.0.0, sym (p.is x) ∙ r.0.1), roots xs r.1)

pub poly_same : {n : ℕ} {f g : ℕ → ℕ} → IsPoly n f → IsPoly n g → (xs : List ℕ) → Distinct xs
    → Each (λ x. (x < 256) × (f x ≡ g x)) xs → n ≤ length xs → (x : ℕ) → f x ≡ g x
poly_same {n} {f} {g} p q xs d r h x =
    equal_from_sum (f x) (g x) (poly_zero (sum_poly p q) xs d (zeros_of xs r) h x)
  where
    zeros_of : (xs : List ℕ) → Each (λ x. (x < 256) × (f x ≡ g x)) xs
        → Each (Zero (λ x. f x ⊕ g x)) xs
    zeros_of [] r = tt
    zeros_of (x ∷ xs) r = ((r.0.0, sum_from_equal (f x) (g x) r.0.1), zeros_of xs r.1)

one_not_zero : suc zero ≡ zero → ⊥
one_not_zero e = cc

pub monic_roots : {n : ℕ} {f : ℕ → ℕ} → IsMonic n f → (xs : List ℕ) → Distinct xs
    → Each (Zero f) xs → length xs ≤ n
monic_roots {n} {f} p xs d r = go (cases_lt n (length xs))
  where
    roots : (xs : List ℕ) → Each (Zero f) xs → Each (Root 1 p.cs) xs
    roots [] r = tt
    roots (x ∷ xs) r = ((r.0.0, sym (p.is x) ∙ r.0.1), roots xs r.1)

    go : (n < length xs) ⊎ (length xs ≤ n) → length xs ≤ n
    go (inl h) =
        absurd (one_not_zero (top_zero 1 p.cs xs (lit< tt) p.bytes d (roots xs r) (omega (arith, p.size))))
    go (inr h) = h

-- ---- the coefficients are determined
zero_value : (cs : List ℕ) (x : ℕ) → Each (λ c. c ≡ 0) cs → horner 0 cs x ≡ 0
zero_value [] x h = refl
zero_value (c ∷ cs) x h =
    ap (λ z. z ⊕ x ⊗ horner 0 cs x) h.0 ∙ ap (λ z. x ⊗ z) (zero_value cs x h.1) ∙ product_zero x

first_zero : (c : ℕ) (cs : List ℕ) (a : ℕ) → horner 0 (c ∷ cs) a ≡ 0 → Each (λ c. c ≡ 0) cs → c ≡ 0
first_zero c cs a e h =
    equal_from_sum c 0 (ap (λ z. c ⊕ z) (sym (ap (λ z. a ⊗ z) (zero_value cs a h) ∙ product_zero a)) ∙ e)

quotient_zero : (cs : List ℕ) (a : ℕ) → Each (λ c. c ≡ 0) (quotient 0 cs a) → Each (λ c. c ≡ 0) cs
quotient_zero [] a h = tt
quotient_zero (c ∷ cs) a h =
    let rest = quotient_zero cs a h.1 in
    (first_zero c cs a h.0 rest, rest)

pub coefficients_zero : (cs xs : List ℕ) → Bytes cs → Distinct xs → Each (Root 0 cs) xs
    → length cs ≤ length xs → Each (λ c. c ≡ 0) cs
coefficients_zero [] xs h d r e = tt
coefficients_zero (c ∷ cs) [] h d r e = absurd (omega arith)
coefficients_zero (c ∷ cs) (a ∷ bs) h d r e =
    let l : length (quotient 0 cs a) ≤ length bs = omega (arith, e, length-quotient 0 cs a) in
    let rest = quotient_zero cs a
    (coefficients_zero (quotient 0 cs a) bs (Bytes-quotient 0 cs a (lit< tt) h.1) d.1 (roots_left 0 c cs a bs (lit< tt) h.1 r.0 d.0 r.1) l) in
    (first_zero c cs a r.0.1 rest, rest)

same_lists : (cs ds : List ℕ) → length cs ≡ length ds → Each (λ c. c ≡ 0) (plus cs ds) → cs ≡ ds
same_lists [] [] e h = refl
same_lists [] (d ∷ ds) e h = absurd (omega arith)
same_lists (c ∷ cs) [] e h = absurd (omega arith)
same_lists (c ∷ cs) (d ∷ ds) e h =
    ap (λ z. z ∷ cs) (equal_from_sum c d h.0) ∙ ap (λ zs. d ∷ zs) (same_lists cs ds (omega arith) h.1)

-- two lists of n coefficients that have the same values at n points are one
pub coefficients_same : (cs ds xs : List ℕ) → Bytes cs → Bytes ds → length cs ≡ length ds
    → Distinct xs
    → Each (λ x. (x < 256) × (horner 0 cs x ≡ horner 0 ds x)) xs → length cs ≤ length xs → cs ≡ ds
coefficients_same cs ds xs hc hd e d r l =
    same_lists cs ds e
    (coefficients_zero (plus cs ds) xs (bytes_plus cs ds hc hd) d (roots xs r) (omega (arith, length-plus cs ds e)))
  where
    roots : (xs : List ℕ) → Each (λ x. (x < 256) × (horner 0 cs x ≡ horner 0 ds x)) xs
        → Each (Root 0 (plus cs ds)) xs
    roots [] r = tt
    roots (x ∷ xs) r =
        ((r.0.0, plus_value cs ds x ∙ sum_from_equal (horner 0 cs x) (horner 0 ds x) r.0.1), roots xs r.1)
