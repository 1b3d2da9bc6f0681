-- The linear system whose unknowns are the coefficients of an error locator.
use Rattle.std.specs.Prelude.{◌≡◌, ◌≢◌, ℕ, ◌+◌, ◌<◌, ◌≤◌, List}
use Rattle.gf256.specs.Field.{◌⊕◌, ◌⊗◌, power}
use Rattle.gf_linear.specs.Differences.{differences}
use Rattle.gf_linear.specs.Lagrange.{interpolated}
use Rattle.gf_linear.specs.Polynomial.{horner}
use Rattle.rs_stripe.specs.Codeword.{share}
use Rattle.bw_decode.specs.Near.{IsNearData}

-- what the value y at the point x, times the power c of x, is off the polynomial through the values Y
-- at the w points X, each times that power of its point
abbrev pub coefficient : ℕ → (ℕ → ℕ) → (ℕ → ℕ) → ℕ → ℕ → ℕ → ℕ
coefficient w X Y x y c = interpolated w X (λ j. Y j ⊗ power (X j) c) x ⊕ y ⊗ power x c

-- the same of point w + i
abbrev pub system : ℕ → (ℕ → ℕ) → (ℕ → ℕ) → ℕ → ℕ → ℕ
system w X Y i c = coefficient w X Y (X (w + i)) (Y (w + i)) c

-- the polynomial with the leading coefficient 1 is an error locator of the r values Y at the points
-- X: where some data are near, it is 0 at each point where their codeword differs from the values,
-- and not 0 at k points at least
pub record IsLocator (r k : ℕ) (X Y : ℕ → ℕ) (locator : List ℕ) : Type 0 where
  pub right :
      (d : ℕ → ℕ) → IsNearData r k X Y d
      → (i : ℕ) → i < r → horner 1 locator (X i) ≢ 0 → share k d (X i) ≡ Y i
  pub enough :
      (d : ℕ → ℕ) → IsNearData r k X Y d
      → k ≤ differences r (λ i. horner 1 locator (X i)) (λ i. 0)
