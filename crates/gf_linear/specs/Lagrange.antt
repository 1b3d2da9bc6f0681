-- Lagrange's formula, over the points X i and the values Y i for i below n
use Rattle.std.specs.Prelude.{ℕ, cond, eqb}
use Rattle.gf256.specs.Field.{◌⊕◌, ◌⊗◌, inverse}
use Rattle.gf256.specs.Sums.{total, whole}

-- the factor of point j in the polynomial that is 0 at each point but the one at i
abbrev pub factor : (ℕ → ℕ) → ℕ → ℕ → ℕ → ℕ
factor X i x j = cond (eqb j i) 1 (x ⊕ X j)

-- that polynomial
abbrev pub basis : (ℕ → ℕ) → ℕ → ℕ → ℕ → ℕ
basis X n i x = whole n (factor X i x)

-- the value at x of the polynomial below degree n that is Y i at each X i
unfoldable pub interpolated : ℕ → (ℕ → ℕ) → (ℕ → ℕ) → ℕ → ℕ
interpolated n X Y x = total n (λ i. Y i ⊗ (basis X n i x ⊗ inverse (basis X n i (X i))))
