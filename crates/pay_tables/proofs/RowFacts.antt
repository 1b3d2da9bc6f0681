-- Rows one after another.
use Rattle.std.proofs.Common.{◌≡◌, ℕ, zero, suc, ◌+◌, false, List, [], ◌∷◌, ◌++◌, take, Some, None, ap, subst, ◌∙◌, arith}
use Rattle.std.specs.Prelude.{◌==◌, slice_get}
use Rattle.std.specs.List.{sum_by}
use Rattle.std.proofs.lemmas.Bool.Decides.{nat_tests}
use Rattle.std.proofs.lemmas.List.Sums.{sum_by_push}
use Rattle.rows.specs.Rows.{row_at}

taken : {X : Type 0} (xs : List X) (i : ℕ) (x : X) → slice_get xs i ≡ Some x → take (suc i) xs ≡ take i xs ++ x ∷ []
taken {X = X} [] i x got = absurd cc
taken {X = X} (y ∷ ys) zero x got = let same : y ≡ x = cc in ap (λ (z : X). z ∷ []) same
taken {X = X} (y ∷ ys) (suc i) x got = ap (λ (zs : List X). y ∷ zs) (taken ys i x got)

-- one more
pub take-got : {X : Type 0} (xs : List X) (i : ℕ) (x : X) → slice_get xs i ≡ Some x → take (i + 1) xs ≡ take i xs ++ x ∷ []
take-got xs i x got = let next : i + 1 ≡ suc i = omega arith in ap (λ (n : ℕ). take n xs) next ∙ taken xs i x got

pub sum-got : {X : Type 0} (f : X → ℕ) (xs : List X) (i : ℕ) (x : X) → slice_get xs i ≡ Some x → sum_by f (take (i + 1) xs) ≡ sum_by f (take i xs) + f x
sum-got f xs i x got = ap (sum_by f) (take-got xs i x got) ∙ sum_by_push f (take i xs) x

-- the rank of each row is there
pub not-there : {X : Type 0} (rank : X → ℕ) (xs : List X) (i k : ℕ) (x : X) → row_at rank xs k ≡ None → slice_get xs i ≡ Some x → (rank x == k) ≡ false
not-there {X = X} rank [] i k x none got = absurd cc
not-there {X = X} rank (y ∷ ys) zero k x none got = let same : y ≡ x = cc in subst (λ (z : X). (rank z == k) ≡ false) same (grind (arith, nat_tests, none))
not-there {X = X} rank (y ∷ ys) (suc i) k x none got = let later = not-there rank ys i k x in grind (arith, nat_tests, none, later, got)
