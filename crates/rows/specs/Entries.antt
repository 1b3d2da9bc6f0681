-- How the rows are kept: a map from ranks to rows, in which a slot has no row yet.
use Rattle.std.specs.Prelude.{◌≡◌, ℕ, ◌<◌, List, [], ◌∷◌, Option, Some, None, length}
use Rattle.std.specs.Map.{keys_of}
use Rattle.rows.specs.Slots.{Slots}

-- the rows of the entries that have one
abbrev pub kept : {R : Type 0} → List (ℕ × Option R) → List R
kept [] = []
kept ((key, None) ∷ rest) = kept rest
kept ((key, Some row) ∷ rest) = row ∷ kept rest

-- how many rows are at a slot
abbrev pub taken : {R : Type 0} → Option (Option R) → ℕ
taken None = 0
taken (Some None) = 0
taken (Some (Some row)) = 1

-- what is at a slot
abbrev pub flat : {R : Type 0} → Option (Option R) → Option R
flat None = None
flat (Some value) = value

-- each key is above this one
abbrev pub KeysAbove : {R : Type 0} → ℕ → List (ℕ × Option R) → Type 0
KeysAbove n [] = Unit {0}
KeysAbove n ((key, value) ∷ rest) = (n < key) × KeysAbove n rest

module _ {R : Type 0} (rank : R → ℕ) where
  -- a row stands at its rank
  abbrev pub StandsAt : ℕ → Option R → Type 0
  StandsAt key None = Unit {0}
  StandsAt key (Some row) = rank row ≡ key

  -- the keys rise, and each row stands at its rank
  abbrev pub IsKept : List (ℕ × Option R) → Type 0
  IsKept [] = Unit {0}
  IsKept ((key, value) ∷ rest) = StandsAt key value × KeysAbove key rest × IsKept rest

  -- and so many rows are there
  pub record Fits (entries : List (ℕ × Option R)) (count : ℕ) : Type 0 where
    pub is_kept : IsKept entries
    pub counted : count ≡ length (kept entries)

-- what contracts see
abbrev pub slots_of : {R : Type 0} → List (ℕ × Option R) → Slots R
slots_of entries = record { rows = kept entries; slots = keys_of entries }

-- the rows of the slots that have one
abbrev pub kept_values : {R : Type 0} → List (Option R) → List R
kept_values [] = []
kept_values (None ∷ rest) = kept_values rest
kept_values (Some row ∷ rest) = row ∷ kept_values rest
