use Rattle.std.specs.Prelude.{◌≢◌, ◌<◌, ℕ, List, [], ◌∷◌}
use Rattle.gf256.specs.Field.{◌⊕◌, ◌⊗◌}

-- the value at x of the polynomial with these coefficients, from the lowest power up, by Horner's rule:
-- c0 + x * (c1 + x * (c2 + ..))
abbrev pub value : List ℕ → ℕ → ℕ
value [] x = 0
value (c ∷ cs) x = c ⊕ x ⊗ value cs x

-- the same with top as the coefficient of the power behind the list: 0 gives the value of the list,
-- and 1 that of a polynomial whose leading coefficient is 1 and is left out
abbrev pub horner : ℕ → List ℕ → ℕ → ℕ
horner top [] x = top
horner top (c ∷ cs) x = c ⊕ x ⊗ horner top cs x

-- each of the list's numbers is a byte
abbrev pub Bytes : List ℕ → Type 0
Bytes [] = Unit {0}
Bytes (c ∷ cs) = (c < 256) × Bytes cs

-- P holds of each of the list's numbers
abbrev pub Each : (ℕ → Type 0) → List ℕ → Type 0
Each P [] = Unit {0}
Each P (x ∷ xs) = P x × Each P xs

-- the list's numbers all differ
abbrev pub Distinct : List ℕ → Type 0
Distinct [] = Unit {0}
Distinct (x ∷ xs) = Each (λ y. y ≢ x) xs × Distinct xs

-- the numbers X i for i below n all differ
abbrev pub Apart : ℕ → (ℕ → ℕ) → Type 0
Apart n X = (i j : ℕ) → i < n → j < n → i ≢ j → X i ≢ X j
