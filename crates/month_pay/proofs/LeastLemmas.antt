-- The least of a list of numbers is the one that is among them and that all are at least.
use Rattle.std.proofs.Common.{◌≡◌, ℕ, ◌≤◌, Bool, true, false, List, [], ◌∷◌, ◌++◌, Option, Some, None, refl, ap, ◌∙◌, arith}
use Rattle.std.specs.Prelude.{◌==◌, ◌||◌}
use Rattle.std.specs.List.{list_any}
use Rattle.std.proofs.lemmas.Bool.Decides.{nat_tests}
use Rattle.std.proofs.lemmas.List.Folds.{list_any-append}
use Rattle.rows.specs.Rows.{AllAbove, Each}
use Rattle.rows.specs.Least.{least_with, least}

abbrev pub In : ℕ → List ℕ → Type 0
In x xs = list_any (λ k. k == x) xs ≡ true

abbrev pub From : ℕ → List ℕ → Type 0
From p xs = Each (λ x. p ≤ x) xs

abbrev FromOne : ℕ → Option ℕ → Type 0
FromOne p None = Unit {0}
FromOne p (Some x) = p ≤ x

least-from : (p : ℕ) (xs : List ℕ) → From p xs → FromOne p (least xs)
least-from p [] from = tt
least-from p (x ∷ xs) from = go (least xs) (least-from p xs from.1)
  where
    go : (o : Option ℕ) → FromOne p o → p ≤ least_with x o
    go None h = from.0
    go (Some y) h = omega (arith, from.0, h)

pub least-of : (p : ℕ) (xs : List ℕ) → From p xs → In p xs → least xs ≡ Some p
least-of p [] from in_xs = cc
least-of p (x ∷ xs) from in_xs = go (x == p) refl in_xs (λ h. least-of p xs from.1 h)
  where
    first : (o : Option ℕ) → x ≡ p → FromOne p o → Some (least_with x o) ≡ Some p
    first None e h = ap Some e
    first (Some y) e h = ap Some (omega (arith, e, h))

    go : (b : Bool) → (x == p) ≡ b → (b || list_any (λ k. k == p) xs) ≡ true → (In p xs → least xs ≡ Some p) → Some (least_with x (least xs)) ≡ Some p
    go true e h later = first (least xs) (grind (arith, nat_tests, e)) (least-from p xs from.1)
    go false e h later = let le : p ≤ x = from.0 in ap (λ (o : Option ℕ). Some (least_with x o)) (later h) ∙ ap Some (omega (arith, le))

pub from-append : (p : ℕ) (xs ys : List ℕ) → From p xs → From p ys → From p (xs ++ ys)
from-append p [] ys f g = g
from-append p (x ∷ xs) ys f g = (f.0, from-append p xs ys f.1 g)

pub in-front : (p : ℕ) (xs ys : List ℕ) → In p xs → In p (xs ++ ys)
in-front p xs ys h = list_any-append (λ k. k == p) xs ys ∙ ap (λ (b : Bool). b || list_any (λ k. k == p) ys) h

pub in-back : (p : ℕ) (xs ys : List ℕ) → In p ys → In p (xs ++ ys)
in-back p [] ys h = h
in-back p (x ∷ xs) ys h = or-true (x == p) (list_any (λ k. k == p) (xs ++ ys)) (in-back p xs ys h)
  where
    or-true : (a b : Bool) → b ≡ true → (a || b) ≡ true
    or-true true b e = refl
    or-true false b e = e

pub in-first : (p : ℕ) (xs : List ℕ) → In p (p ∷ xs)
in-first p xs = grind (arith, nat_tests)

pub from-above : (n : ℕ) (xs : List ℕ) → AllAbove (λ x. x) n xs → From n xs
from-above n [] h = tt
from-above n (x ∷ xs) h = (omega (arith, h.0), from-above n xs h.1)

pub none-in : (x n : ℕ) (xs : List ℕ) → AllAbove (λ k. k) n xs → x ≤ n → In x xs → ⊥
none-in x n [] above le h = cc
none-in x n (k ∷ ks) above le h = go (k == x) refl h (none-in x n ks above.1 le)
  where
    go : (b : Bool) → (k == x) ≡ b → (b || list_any (λ j. j == x) ks) ≡ true → (In x ks → ⊥) → ⊥
    go true e h later = let same : k ≡ x = grind (arith, nat_tests, e) in omega (arith, above.0, same, le)
    go false e h later = later h
