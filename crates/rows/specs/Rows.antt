-- Rows in the order of their ranks.
use Rattle.std.specs.Prelude.{ℕ, ◌<◌, not, List, [], ◌∷◌, Option, find, filter, map, ◌==◌, nat_lt, if◌then◌else◌}

-- each row of a list
abbrev pub Each : {R : Type 0} → (R → Type 0) → List R → Type 0
Each P [] = Unit {0}
Each P (row ∷ rest) = P row × Each P rest

-- what contracts see: the rows, and for how many more there is room
pub record RowList (R : Type 0) : Type 0 where
  pub rows : List R
  pub spare : ℕ

module _ {R : Type 0} (rank : R → ℕ) where
  -- the row of a rank
  abbrev pub row_at : List R → ℕ → Option R
  row_at rows k = find (λ row. rank row == k) rows

  -- the first row above a rank
  abbrev pub first_above : List R → ℕ → Option R
  first_above rows k = find (λ row. nat_lt k (rank row)) rows

  -- the rows with one more, in its place
  abbrev pub added : R → List R → List R
  added row [] = row ∷ []
  added row (first ∷ rest) = if nat_lt (rank row) (rank first) then row ∷ first ∷ rest else first ∷ added row rest

  -- the rows with this one in place of the one of its rank
  abbrev pub replaced : R → List R → List R
  replaced row rows = map (λ old. if rank old == rank row then row else old) rows

  -- the rows without the one of a rank
  abbrev pub without : List R → ℕ → List R
  without rows k = filter (λ row. not (rank row == k)) rows

  -- each rank is above this one
  abbrev pub AllAbove : ℕ → List R → Type 0
  AllAbove k [] = Unit {0}
  AllAbove k (row ∷ rest) = (k < rank row) × AllAbove k rest

  -- the ranks rise, so none comes twice
  abbrev pub IsRising : List R → Type 0
  IsRising [] = Unit {0}
  IsRising (row ∷ rest) = AllAbove (rank row) rest × IsRising rest
