-- Which workers' numbers stand in a history, and how often its places are named.
use Rattle.std.specs.Prelude.{◌≡◌, ℕ, ◌+◌, List, [], ◌∷◌, map, true, false, cond, ◌==◌, Some, slice_get, flat_map}
use Rattle.turnstile.specs.declared.entry.Entry.{Entry}
use Rattle.turnstile.specs.History.{has, own, Each}
use Rattle.desk_runs.specs.Entered.{place_of}

-- the numbers differ
abbrev pub Apart : List ℕ → Type 0
Apart [] = Unit {0}
Apart (n ∷ ns) = (has ns n ≡ false) × Apart ns

-- how often a number stands in a list
abbrev pub times : ℕ → List ℕ → ℕ
times n [] = 0
times n (m ∷ ms) = cond (m == n) 1 0 + times n ms

module _ {C A : Type 0} where
  -- each entry stands at its place
  abbrev pub ArePlaced : List (Entry C A) → Type 0
  ArePlaced history = (i : ℕ) (e : Entry C A) → slice_get history i ≡ Some e → e.place ≡ i

  -- each entry has one of these numbers
  abbrev pub Covers : List ℕ → List (Entry C A) → Type 0
  Covers numbers history = Each (λ e. has numbers e.pass ≡ true) history

  -- the places of the entries with this number, in their order
  abbrev pub places_of_number : List (Entry C A) → ℕ → List ℕ
  places_of_number history number = map place_of (own (number ∷ []) history)

  -- how often a place is named by workers with these numbers
  abbrev pub times_named : List ℕ → List (Entry C A) → ℕ → ℕ
  times_named numbers history place = times place (flat_map (places_of_number history) numbers)
