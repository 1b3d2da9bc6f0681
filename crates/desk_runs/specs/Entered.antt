-- What calls leave of a pass, whatever else is told of them.
use Rattle.std.specs.Prelude.{◌≡◌, ℕ, List, ◌++◌, Some, slice_get}
use Rattle.turnstile.specs.declared.entry.Entry.{Entry}
use Rattle.turnstile.specs.History.{StartsWith}
use Rattle.turnstile.specs.Known.{Known, SameRights, own_entries}

module _ {C A : Type 0} where
  abbrev pub place_of : Entry C A → ℕ
  place_of e = e.place

  -- the entry stands in the history at this place
  abbrev pub At : List (Entry C A) → ℕ → Entry C A → Type 0
  At history place e = slice_get history place ≡ Some e

module _ {C A B : Type 0} where
  -- the pass has a ticket at or above the term
  abbrev pub Marked : Known C A B → Type 0
  Marked k = (t : ℕ) × (k.mark ≡ Some t)

  -- the pass entered these and no others, and has seen a longer beginning of the history
  pub record Entered (before : Known C A B) (new : List (Entry C A)) (after : Known C A B) : Type 0 where
    pub rights : SameRights before after
    pub begins : StartsWith after.seen before.seen
    pub grew : own_entries after ≡ own_entries before ++ new
    pub marked : Marked before → Marked after
