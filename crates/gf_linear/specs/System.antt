use Rattle.std.specs.Prelude.{◌≡◌, ◌≢◌, ℕ, ◌<◌}
use Rattle.gf256.specs.Field.{◌⊗◌}
use Rattle.gf256.specs.Sums.{total}

-- x solves the system with the coefficients in the first columns of M, one for each unknown, and the
-- right side in the next
abbrev pub IsSolution : ℕ → ℕ → (ℕ → ℕ → ℕ) → (ℕ → ℕ) → Type 0
IsSolution rows unknowns M x =
    (i : ℕ) → i < rows → total unknowns (λ j. M i j ⊗ x j) ≡ M i unknowns

-- the unknown j is free: its column is a combination of the columns before it, so that it has no
-- pivot. In other words each row takes to 0 some z that is not 0 at j, and is 0 behind j
abbrev pub IsFree : ℕ → ℕ → (ℕ → ℕ → ℕ) → ℕ → Type 0
IsFree rows unknowns M j =
    (z : ℕ → ℕ)
    × ((i : ℕ) → i < rows → total unknowns (λ l. M i l ⊗ z l) ≡ 0)
    × (z j < 256) × (z j ≢ 0) × ((l : ℕ) → j < l → l < unknowns → z l ≡ 0)
