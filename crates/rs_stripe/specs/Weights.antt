-- A share as a sum of the data bytes, each times a number that the data do not change.
use Rattle.std.specs.Prelude.{◌≡◌, ℕ, ◌+◌, ◌*◌, ◌<◌, List, length, slice_index}
use Rattle.gf256.specs.Field.{◌⊗◌, inverse}
use Rattle.gf256.specs.Sums.{total}
use Rattle.gf_linear.specs.Lagrange.{basis}
use Rattle.rs_stripe.specs.Codeword.{share}

-- what Lagrange's formula multiplies the value at point i by
unfoldable pub weight : (ℕ → ℕ) → ℕ → ℕ → ℕ → ℕ
weight X n i x = basis X n i x ⊗ inverse (basis X n i (X i))

-- the sum of the first k data bytes, each times its weight
abbrev pub weighted : ℕ → (ℕ → ℕ) → (ℕ → ℕ) → ℕ
weighted k w d = total k (λ i. w i ⊗ d i)

-- w are the weights of share x of k data bytes
abbrev pub AreWeights : ℕ → ℕ → (ℕ → ℕ) → Type 0
AreWeights k x w = (d : ℕ → ℕ) → share k d x ≡ weighted k w d

-- d are the divisors of the points X i for i below n
abbrev pub AreDivisors : ℕ → (ℕ → ℕ) → (ℕ → ℕ) → Type 0
AreDivisors n X d = (i : ℕ) → i < n → d i ≡ inverse (basis X n i (X i))

-- the rows of a matrix are the weights of the shares of these indexes
abbrev pub AreMatrix : ℕ → List ℕ → List ℕ → Type 0
AreMatrix k indexes matrix =
    (t : ℕ) → t < length indexes
    → AreWeights k (slice_index indexes t) (λ i. slice_index matrix (t * k + i))
