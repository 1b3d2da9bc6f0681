-- Rows in the order of their ranks, and the ranks for which there is room.
use Rattle.std.specs.Prelude.{ℕ, Bool, not, filter, List, [], ◌∷◌, ◌==◌, nat_lt, if◌then◌else◌}
use Rattle.std.specs.List.{list_any}

-- the rows, and the ranks that have a slot; the rank of each row is one of them
pub record Slots (R : Type 0) : Type 0 where
  pub rows : List R
  pub slots : List ℕ

-- no rows, and no slots
abbrev pub no_rows : {R : Type 0} → Slots R
no_rows = record { rows = []; slots = [] }

-- whether there is room for a row of this rank, or such a row
abbrev pub has_slot : {R : Type 0} → Slots R → ℕ → Bool
has_slot t k = list_any (λ slot. slot == k) t.slots

-- the slots with one of this rank, in its place
abbrev pub with_slot : List ℕ → ℕ → List ℕ
with_slot [] k = k ∷ []
with_slot (slot ∷ rest) k =
    if nat_lt k slot then k ∷ slot ∷ rest
    else if k == slot then slot ∷ rest
    else slot ∷ with_slot rest k

-- the slots without that of this rank
abbrev pub without_slot : List ℕ → ℕ → List ℕ
without_slot slots k = filter (λ slot. not (slot == k)) slots

-- the table without the slot of this rank
abbrev pub released : {R : Type 0} → Slots R → ℕ → Slots R
released t k = record t { slots = without_slot t.slots k }

-- the rows with this one, in its place or in place of the one of its rank
abbrev pub with_row : {R : Type 0} → (R → ℕ) → List R → R → List R
with_row rank [] row = row ∷ []
with_row rank (first ∷ rest) row =
    if nat_lt (rank row) (rank first) then row ∷ first ∷ rest
    else if rank row == rank first then row ∷ rest
    else first ∷ with_row rank rest row
