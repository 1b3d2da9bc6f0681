-- Pairs of numbers in the order of the first one, and of the second where those are equal.
use Rattle.std.specs.Prelude.{◌≡◌, ℕ, ◌+◌, ◌*◌, ◌^◌, ◌<◌, ◌≤◌, Bool, true, false, ◌&&◌, ◌==◌, List, [], ◌∷◌, Option, Some, None}
use Rattle.std.specs.List.{list_any}
use Rattle.segment_index.specs.declared.pairs.Pair.{Pair}

-- the place of a pair in that order, where the second number is below 2^64
unfoldable pub pair_rank : Pair → ℕ
pair_rank pair = pair.high * 2 ^ 64 + pair.low

abbrev pub is_same : Pair → Pair → Bool
is_same a b = (a.high == b.high) && (a.low == b.low)

-- whether a pair is among these
abbrev pub has : List Pair → Pair → Bool
has pairs one = list_any (λ pair. is_same pair one) pairs

-- the second numbers are below 2^64
abbrev pub AreWithin : List Pair → Type 0
AreWithin [] = Unit {0}
AreWithin (pair ∷ rest) = (pair.low < 2 ^ 64) × AreWithin rest

-- a comes no later than b
abbrev pub IsNoLater : Pair → Pair → Type 0
IsNoLater a b = (a.high ≤ b.high) × (a.high ≡ b.high → a.low ≤ b.low)

-- the first of the pairs, if there is one
abbrev pub IsFirst : List Pair → Option Pair → Type 0
IsFirst pairs None = (other : Pair) → has pairs other ≡ false
IsFirst pairs (Some first) = (has pairs first ≡ true) × ((other : Pair) → has pairs other ≡ true → IsNoLater first other)

-- the least second number above a bound, of the pairs with this first number, if there is one
abbrev pub IsNext : List Pair → ℕ → ℕ → Option ℕ → Type 0
IsNext pairs high bound None = (low : ℕ) → bound < low → has pairs (record { high = high; low = low }) ≡ false
IsNext pairs high bound (Some next) = (bound < next) × (has pairs (record { high = high; low = next }) ≡ true)
    × ((low : ℕ) → bound < low → has pairs (record { high = high; low = low }) ≡ true → next ≤ low)
