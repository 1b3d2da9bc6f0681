-- Passes that were split for workers, and joined again.
use Rattle.std.specs.Prelude.{◌≡◌, ℕ, ◌+◌, ◌<◌, List, [], ◌∷◌, ◌++◌, true}
use Rattle.turnstile.specs.History.{has, own, StartsWith}
use Rattle.turnstile.specs.Known.{Known}
use Rattle.desk_runs.specs.Entered.{Marked}

-- the numbers rise, above one and below another
abbrev pub Rises : ℕ → List ℕ → ℕ → Type 0
Rises low [] high = Unit {0}
Rises low (n ∷ ns) high = (low < n) × (n < high) × Rises n ns high

module _ {C A B : Type 0} where
  -- what the whole pass has of one that was joined into it
  pub record Keeps (part whole : Known C A B) : Type 0 where
    pub begins : StartsWith whole.seen part.seen
    pub same : (n : ℕ) → has part.numbers n ≡ true → own (n ∷ []) whole.seen ≡ own (n ∷ []) part.seen
    pub numbers : (n : ℕ) → has part.numbers n ≡ true → has whole.numbers n ≡ true
    pub marked : Marked part → Marked whole

  -- a pass was split for workers with these numbers and joined again: it has all its rights, and entered nothing itself
  pub record Gathered (before : Known C A B) (numbers : List ℕ) (after : Known C A B) : Type 0 where
    pub numbers_are : after.numbers ≡ before.numbers ++ numbers
    pub parts_are : after.parts ≡ before.parts
    pub base_is : after.base ≡ before.base
    pub desk_is : after.desk ≡ before.desk
    pub rises : Rises before.number numbers (before.number + before.spare)
    pub idle : (n : ℕ) → has before.numbers n ≡ true → own (n ∷ []) after.seen ≡ own (n ∷ []) before.seen
