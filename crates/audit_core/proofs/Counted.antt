-- Indexes that are counted among others are as those are.
use Rattle.std.proofs.Common.{◌≡◌, ℕ, ◌<◌, ◌≤◌, Bool, true, false, List, [], ◌∷◌, refl, ap, cond, arith}
use Rattle.std.specs.Prelude.{All, ◌==◌}
use Rattle.std.proofs.lemmas.Bool.{eqb-true, eq-eqb}
use Rattle.std.proofs.lemmas.List.Elements.{All-nil, All-cons, All-head, All-tail}
use Rattle.audit_core.specs.Verdict.{count_of}
use Rattle.audit_core.proofs.Parts.{count_of-cons}

pub counted-here : (x : ℕ) (xs : List ℕ) → 1 ≤ count_of x (x ∷ xs)
counted-here x xs =
    let one : cond {A = ℕ} (x == x) 1 0 ≡ 1 = ap (λ (b : Bool). cond {A = ℕ} b 1 0) (eq-eqb x x refl) in
    omega (arith, count_of-cons x x xs, one)

pub counted-later : (x y : ℕ) (xs : List ℕ) → count_of x xs ≤ count_of x (y ∷ xs)
counted-later x y xs = omega (arith, count_of-cons x y xs)

pub below-counted : (n x : ℕ) (xs : List ℕ) → All (λ i. i < n) xs → 1 ≤ count_of x xs → x < n
below-counted n x [] below some = absurd (omega (arith, some))
below-counted n x (y ∷ ys) below some = go (y == x) refl (below-counted n x ys (All-tail (λ i. i < n) y ys below))
  where
    go : (b : Bool) → (y == x) ≡ b → (1 ≤ count_of x ys → x < n) → x < n
    go true is rest = let same : y ≡ x = eqb-true y x is in let lt : y < n = All-head (λ i. i < n) y ys below in omega arith
    go false is rest =
        let none : cond {A = ℕ} (y == x) 1 0 ≡ 0 = ap (λ (b : Bool). cond {A = ℕ} b 1 0) is in
        rest (omega (arith, some, count_of-cons x y ys, none))

pub each-below : (n : ℕ) (xs ys : List ℕ) → ((x : ℕ) → count_of x xs ≤ count_of x ys) → ((x : ℕ) → 1 ≤ count_of x ys → x < n) → All (λ i. i < n) xs
each-below n [] ys few so = All-nil (λ i. i < n)
each-below n (x ∷ xs) ys few so =
    All-cons (λ i. i < n) x xs (so x (omega (arith, counted-here x xs, few x)))
    (each-below n xs ys (λ z. omega (arith, counted-later z x xs, few z)) so)
