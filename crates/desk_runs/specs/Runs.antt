-- What a worker did, one thing after another, and what is left of it in the whole history.
use Rattle.std.specs.Prelude.{◌≡◌, ℕ, List, [], ◌∷◌, ◌++◌, map, Bool, true, false, ◌||◌}
use Rattle.turnstile.specs.declared.entry.Entry.{Entry}
use Rattle.turnstile.specs.History.{has, own, StartsWith}
use Rattle.turnstile.specs.Known.{Known}
use Rattle.desk_runs.specs.Entered.{place_of, Entered, Marked}

-- some of them
abbrev pub some_is : {X : Type 0} → (X → Bool) → List X → Bool
some_is p [] = false
some_is p (x ∷ xs) = p x || some_is p xs

-- S is what is told of what a worker has, and X what it says of one thing that it did.
-- Tells s x new history s': between s and s' these entries were made, which stand in this history, and x says so.
module _ {C A S X : Type 0} (Tells : S → X → List (Entry C A) → List (Entry C A) → S → Type 0) where
  -- what is told over a history holds over each that begins with it
  abbrev pub Lasts : Type 0
  Lasts = (s : S) (x : X) (new h h' : List (Entry C A)) (s' : S) → StartsWith h' h → Tells s x new h s' → Tells s x new h' s'

module _ {C A B S X : Type 0} (places : X → List ℕ) (is_full : X → Bool) (Tells : S → X → List (Entry C A) → List (Entry C A) → S → Type 0) where
  -- one thing was done: it names the places of the entries that it made, and where it met the full term the pass has a mark
  pub record Does (s : S) (k : Known C A B) (x : X) (s' : S) (k' : Known C A B) : Type 0 where
    pub new : List (Entry C A)
    pub entered : Entered k new k'
    pub named : map place_of new ≡ places x
    pub full : is_full x ≡ true → Marked k'
    pub tells : Tells s x new k'.seen s'

  -- these were done, each from where the one before it ended
  abbrev pub Runs : S → Known C A B → List X → S → Known C A B → Type 0
  Runs s k [] s' k' = (s' ≡ s) × (k' ≡ k)
  Runs s k (x ∷ xs) s' k' = (m : S) × (j : Known C A B) × Does s k x m j × Runs m j xs s' k'

module _ {C A S X : Type 0} (places : X → List ℕ) (Tells : S → X → List (Entry C A) → List (Entry C A) → S → Type 0) (history : List (Entry C A)) where
  -- one after another they made just these entries of the history, and each says so
  abbrev pub Acts : S → List X → List (Entry C A) → S → Type 0
  Acts s [] made s' = (s' ≡ s) × (made ≡ [])
  Acts s (x ∷ xs) made s' = (m : S) × (new rest : List (Entry C A)) × (made ≡ new ++ rest) × (map place_of new ≡ places x) × Tells s x new history m × Acts m xs rest s'

module _ {C A B S X : Type 0} (places : X → List ℕ) (is_full : X → Bool) (Tells : S → X → List (Entry C A) → List (Entry C A) → S → Type 0) where
  -- What a worker of this number did is in the history that a pass has seen, and just the entries with the number are its own.
  pub record HasDone (u : Known C A B) (number : ℕ) (s : S) (xs : List X) (s' : S) : Type 0 where
    pub answers : has u.numbers number ≡ true
    pub acts : Acts places Tells u.seen s xs (own (number ∷ []) u.seen) s'
    pub full : some_is is_full xs ≡ true → Marked u
