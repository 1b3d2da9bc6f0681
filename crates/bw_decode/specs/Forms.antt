-- Linear forms: sums of a share's bytes, each times a factor of its column. A row of bytes is given
-- by column.
use Rattle.std.specs.Prelude.{◌≡◌, ℕ, ◌<◌, List, length, slice_index}
use Rattle.gf256.specs.Field.{◌⊕◌, ◌⊗◌}
use Rattle.gf256.specs.Sums.{total}

-- the form is linear, and reads the first size columns alone
pub record IsLinear (size : ℕ) (F : (ℕ → ℕ) → ℕ) : Type 0 where
  pub same : (f g : ℕ → ℕ) → ((c : ℕ) → c < size → f c ≡ g c) → F f ≡ F g
  pub sum : (f g : ℕ → ℕ) → F (λ c. f c ⊕ g c) ≡ F f ⊕ F g
  pub times : (a : ℕ) (f : ℕ → ℕ) → F (λ c. a ⊗ f c) ≡ a ⊗ F f

-- the byte of column c
abbrev pub at_column : ℕ → (ℕ → ℕ) → ℕ
at_column c row = row c

-- the sum of the bytes, each times its column's factor
abbrev pub combined : List ℕ → (ℕ → ℕ) → ℕ
combined factors row = total (length factors) (λ c. slice_index factors c ⊗ row c)
