-- Lists of entries, and the numbers of passes.
use Rattle.std.specs.Prelude.{◌≡◌, ℕ, ◌+◌, List, [], ◌∷◌, ◌++◌, Bool, true, false, not, cond, eqb, ◌&&◌, ◌||◌}
use Rattle.turnstile.specs.declared.entry.Entry.{Entry}

-- the number is among these
abbrev pub has : List ℕ → ℕ → Bool
has [] n = false
has (m ∷ ms) n = eqb m n || has ms n

module _ {C A : Type 0} where
  -- the history begins with what was seen
  abbrev pub StartsWith : List (Entry C A) → List (Entry C A) → Type 0
  StartsWith history seen = (later : List (Entry C A)) × (history ≡ seen ++ later)

  -- the entries whose pass number is among these, in their order
  abbrev pub own : List ℕ → List (Entry C A) → List (Entry C A)
  own numbers [] = []
  own numbers (e ∷ es) = cond (has numbers e.pass) (e ∷ own numbers es) (own numbers es)

  -- no entry has one of these pass numbers
  abbrev pub none_own : List ℕ → List (Entry C A) → Bool
  none_own numbers [] = true
  none_own numbers (e ∷ es) = not (has numbers e.pass) && none_own numbers es

  abbrev pub Each : (Entry C A → Type 0) → List (Entry C A) → Type 0
  Each P [] = Unit {0}
  Each P (e ∷ es) = P e × Each P es

abbrev pub total : {X : Type 0} → (X → ℕ) → List X → ℕ
total f [] = 0
total f (x ∷ xs) = f x + total f xs
