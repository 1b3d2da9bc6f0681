-- How many flags of a row are set.
use Rattle.std.specs.Prelude.{◌≡◌, ℕ, suc, zero, ◌+◌, ◌*◌, ◌≤◌, Bool, true, false, List, [], ◌∷◌, length, slice_index}

-- how many of the first j flags are set
abbrev pub rank : ℕ → List Bool → ℕ
rank zero flags = 0
rank (suc j) [] = 0
rank (suc j) (true ∷ flags) = suc (rank j flags)
rank (suc j) (false ∷ flags) = rank j flags

-- how many flags are set
abbrev pub count : List Bool → ℕ
count flags = rank (length flags) flags

-- there is a count for each block of 256 flags, and one for all
pub record IsCounted (flags : List Bool) (counts : List ℕ) (total : ℕ) : Type 0 where
  pub all : total ≡ count flags
  pub covered : length flags ≤ 256 * length counts
  pub blocks : (b : ℕ) → rank (256 * b) flags + slice_index counts b ≡ rank (256 * (b + 1)) flags
