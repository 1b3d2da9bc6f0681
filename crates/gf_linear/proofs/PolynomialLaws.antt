-- The laws of polynomials in the words of the contracts.
use Rattle.std.proofs.Common.{ℕ, zero, suc, ◌≡◌, ◌≢◌, ◌<◌, ◌≤◌, refl, sym, ◌∙◌, List, [], ◌∷◌, length, ◌⊎◌, inl, inr, arith, get_or, slice_index}
use Rattle.std.specs.List.{All, Any}
use Rattle.std.proofs.lemmas.Bool.{cases_lt}
use Rattle.gf_linear.specs.Polynomial.{value, horner, Bytes, Each, Distinct, Apart}
use Rattle.gf_linear.proofs.Poly.{value_is, Root, coefficients_zero, coefficients_same}
use Rattle.gf_linear.proofs.Lagrange.{AreBytes, lagrange_poly, lagrange_through}

-- ---- lists by their indexes
each_at : (P : ℕ → Type 0) (xs : List ℕ) (i d : ℕ) → i < length xs → Each P xs
    → P (get_or xs i d)
each_at P [] i d h e = absurd (omega arith)
each_at P (x ∷ xs) zero d h e = e.0
each_at P (x ∷ xs) (suc i) d h e = each_at P xs i d (omega arith) e.1

each_of_all : (P : ℕ → Type 0) (xs : List ℕ) → All P xs → Each P xs
each_of_all P [] h = tt
each_of_all P (x ∷ xs) h =
    (h 0 x (omega arith), each_of_all P xs (λ k d l. h (suc k) d (omega arith)))

bytes_at : (xs : List ℕ) → Bytes xs → AreBytes (length xs) (slice_index xs)
bytes_at [] b i h = absurd (omega arith)
bytes_at (x ∷ xs) b zero h = b.0
bytes_at (x ∷ xs) b (suc i) h = bytes_at xs b.1 i (omega arith)

distinct_apart : (xs : List ℕ) → Distinct xs → Apart (length xs) (slice_index xs)
distinct_apart [] d i j hi hj ne = absurd (omega arith)
distinct_apart (x ∷ xs) d zero zero hi hj ne = absurd (ne refl)
distinct_apart (x ∷ xs) d zero (suc j) hi hj ne =
    λ e. each_at (λ y. y ≢ x) xs j 0 (omega arith) d.0 (sym e)
distinct_apart (x ∷ xs) d (suc i) zero hi hj ne = each_at (λ y. y ≢ x) xs i 0 (omega arith) d.0
distinct_apart (x ∷ xs) d (suc i) (suc j) hi hj ne =
    let other : i ≢ j = omega arith in
    distinct_apart xs d.1 i j (omega arith) (omega arith) other

-- ---- the laws
pub only_one : (c d points : List ℕ) → Bytes c → Bytes d → Bytes points → Distinct points
    → length c ≡ length points → length d ≡ length points
    → All (λ x. value c x ≡ value d x) points → c ≡ d
only_one c d points hc hd hp apart lc ld same =
    coefficients_same c d points hc hd (lc ∙ sym ld) apart
    (agree points hp (each_of_all (λ x. value c x ≡ value d x) points same)) (omega arith)
  where
    agree : (xs : List ℕ) → Bytes xs → Each (λ x. value c x ≡ value d x) xs
        → Each (λ x. (x < 256) × (horner 0 c x ≡ horner 0 d x)) xs
    agree [] b e = tt
    agree (x ∷ xs) b e = ((b.0, sym (value_is c x) ∙ e.0 ∙ value_is d x), agree xs b.1 e.1)

pub one_exists : (points values : List ℕ) → Bytes points → Bytes values → Distinct points
    → length values ≡ length points
    → (c : List ℕ) × (length c ≡ length points) × Bytes c
    × ((i : ℕ) → i < length points → value c (slice_index points i) ≡ slice_index values i)
one_exists points values hp hv apart same =
    let p = lagrange_poly (length points) (slice_index points) (slice_index values) in (
      p.cs,
      p.size,
      p.bytes,
      (λ i h.
          value_is p.cs (slice_index points i) ∙ sym (p.is (slice_index points i))
          ∙ lagrange_through (length points) (slice_index points) (slice_index values) (distinct_apart points apart)
          (bytes_at points hp) (λ j l. bytes_at values hv j (omega arith)) i h),
    )

pub roots_below : (c roots : List ℕ) → Bytes c → Any (λ a. a ≢ 0) c → Bytes roots → Distinct roots
    → All (λ x. value c x ≡ 0) roots → length roots < length c
roots_below c roots hc (k, a, inside, is_a, ne) hr apart zeros =
    go (cases_lt (length roots) (length c))
  where
    roots_of : (xs : List ℕ) → Bytes xs → Each (λ x. value c x ≡ 0) xs → Each (Root 0 c) xs
    roots_of [] b e = tt
    roots_of (x ∷ xs) b e = ((b.0, sym (value_is c x) ∙ e.0), roots_of xs b.1 e.1)

    go : (length roots < length c) ⊎ (length c ≤ length roots) → length roots < length c
    go (inl h) = h
    go (inr h) =
        absurd (ne (sym is_a ∙ each_at (λ z. z ≡ 0) c k a inside
        (coefficients_zero c roots hc apart (roots_of roots hr (each_of_all (λ x. value c x ≡ 0) roots zeros)) h)))
