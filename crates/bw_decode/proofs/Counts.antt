-- How many items of a list pass a test.
use Rattle.std.proofs.Common.{ℕ, zero, suc, ◌≡◌, ◌<◌, ◌≤◌, ◌+◌, refl, sym, ap, ◌∙◌, subst, List, [], ◌∷◌, length, get_or, arith, lit≤, cond, eqb, true, false, not, Bool, eq-eqb, count_by}
use Rattle.std.proofs.lemmas.List.Sums.{sum_by-cons}
use Rattle.gf_linear.specs.Differences.{differences}

count_first : {X : Type 0} (p : X → Bool) (x : X) (xs : List X) (b : Bool) → p x ≡ b
    → count_by p (x ∷ xs) ≡ cond b 1 0 + count_by p xs
count_first p x xs b e =
    sum_by-cons (λ x. cond (p x) 1 0) x xs ∙ ap (λ (b : Bool). cond b 1 0 + count_by p xs) e

-- what passes p passes q
pub count_fewer : {X Y : Type 0} (p : X → Bool) (q : Y → Bool) (xs : List X) (ys : List Y) → length xs ≡ length ys
    → ((i : ℕ) (x : X) (y : Y) → i < length xs → p (get_or xs i x) ≡ true → q (get_or ys i y) ≡ true)
    → count_by p xs ≤ count_by q ys
count_fewer p q [] ys e h =
    let none : count_by p [] ≤ 0 = lit≤ tt in omega arith
count_fewer p q (x ∷ xs) [] e h = absurd (omega arith)
count_fewer p q (x ∷ xs) (y ∷ ys) e h =
    go (p x) (q y) refl refl (count_fewer p q xs ys (omega arith) (λ i a b l. h (suc i) a b (omega arith)))
  where
    go : (a b : Bool) → p x ≡ a → q y ≡ b → count_by p xs ≤ count_by q ys
        → count_by p (x ∷ xs) ≤ count_by q (y ∷ ys)
    go true true ea eb ih = omega (arith, count_first p x xs true ea, count_first q y ys true eb)
    go true false ea eb ih =
        let passes : q y ≡ true = h 0 x y (omega arith) ea in
        absurd (both (sym passes ∙ eb))
      where
        both : true ≡ false → ⊥
        both e = cc
    go false true ea eb ih = omega (arith, count_first p x xs false ea, count_first q y ys true eb)
    go false false ea eb ih = omega (arith, count_first p x xs false ea, count_first q y ys false eb)

-- and the item at one place passes q alone
pub count_more : {X : Type 0} (p q : X → Bool) (xs ys : List X) (n : ℕ) (z : X) → length xs ≡ length ys
    → ((i : ℕ) (x y : X) → i < length xs → p (get_or xs i x) ≡ true → q (get_or ys i y) ≡ true)
    → n < length xs → p (get_or xs n z) ≡ false → q (get_or ys n z) ≡ true
    → count_by p xs < count_by q ys
count_more p q [] ys n z e h l f t = absurd (omega arith)
count_more p q (x ∷ xs) [] n z e h l f t = absurd (omega arith)
count_more p q (x ∷ xs) (y ∷ ys) zero z e h l f t =
    let rest = count_fewer p q xs ys (omega arith) (λ i a b l. h (suc i) a b (omega arith)) in
    omega (arith, count_first p x xs false f, count_first q y ys true t)
count_more p q (x ∷ xs) (y ∷ ys) (suc n) z e h l f t =
    go (p x) (q y) refl refl (count_more p q xs ys n z (omega arith) (λ i a b l. h (suc i) a b (omega arith)) (omega arith) f t)
  where
    go : (a b : Bool) → p x ≡ a → q y ≡ b → count_by p xs < count_by q ys
        → count_by p (x ∷ xs) < count_by q (y ∷ ys)
    go true true ea eb ih = omega (arith, count_first p x xs true ea, count_first q y ys true eb)
    go true false ea eb ih =
        let passes : q y ≡ true = h 0 x y (omega arith) ea in
        absurd (both (sym passes ∙ eb))
      where
        both : true ≡ false → ⊥
        both e = cc
    go false true ea eb ih = omega (arith, count_first p x xs false ea, count_first q y ys true eb)
    go false false ea eb ih = omega (arith, count_first p x xs false ea, count_first q y ys false eb)

-- each item passes a test or its opposite
pub count_both : {X : Type 0} (p : X → Bool) (xs : List X) → count_by p xs + count_by (λ x. not (p x)) xs ≡ length xs
count_both p [] = refl
count_both p (x ∷ xs) = go (p x) refl (count_both p xs)
  where
    go : (b : Bool) → p x ≡ b → count_by p xs + count_by (λ x. not (p x)) xs ≡ length xs
        → count_by p (x ∷ xs) + count_by (λ x. not (p x)) (x ∷ xs) ≡ suc (length xs)
    go true e ih = omega (arith, count_first p x xs true e, count_first (λ x. not (p x)) x xs false (ap not e))
    go false e ih = omega (arith, count_first p x xs false e, count_first (λ x. not (p x)) x xs true (ap not e))

-- differences counted from the front
differences_first : (n : ℕ) (f g : ℕ → ℕ)
    → differences (suc n) f g ≡ cond (eqb (f 0) (g 0)) 0 1 + differences n (λ i. f (suc i)) (λ i. g (suc i))
differences_first zero f g = omega arith
differences_first (suc n) f g = omega (arith, differences_first n f g)

-- where f and g differ only at places that pass a test, they differ at no more places than pass
pub differences_counted : {X : Type 0} (p : X → Bool) (xs : List X) (f g : ℕ → ℕ)
    → ((i : ℕ) (x : X) → i < length xs → p (get_or xs i x) ≡ false → f i ≡ g i)
    → differences (length xs) f g ≤ count_by p xs
differences_counted p [] f g h = lit≤ tt
differences_counted p (x ∷ xs) f g h =
    go (p x) refl (differences_counted p xs (λ i. f (suc i)) (λ i. g (suc i)) (λ i y l. h (suc i) y (omega arith)))
  where
    go : (b : Bool) → p x ≡ b
        → differences (length xs) (λ i. f (suc i)) (λ i. g (suc i)) ≤ count_by p xs
        → differences (suc (length xs)) f g ≤ count_by p (x ∷ xs)
    go true t ih =
        let most : cond (eqb (f 0) (g 0)) 0 1 ≤ 1 = at_most (eqb (f 0) (g 0)) in
        omega (arith, count_first p x xs true t, differences_first (length xs) f g)
      where
        at_most : (b : Bool) → cond b 0 1 ≤ 1
        at_most true = lit≤ tt
        at_most false = lit≤ tt
    go false t ih =
        let same : f 0 ≡ g 0 = h 0 x (omega arith) t in
        let test : eqb (f 0) (g 0) ≡ true = eq-eqb (f 0) (g 0) same in
        let none : cond (eqb (f 0) (g 0)) 0 1 ≤ 0 = subst (λ (b : Bool). cond b 0 1 ≤ 0) (sym test) (lit≤ tt) in
        omega (arith, count_first p x xs false t, differences_first (length xs) f g)
