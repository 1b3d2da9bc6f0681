-- The rule of the desk: what holds between any two steps of any threads.
-- The table has two words, the next ticket to draw and the number of calls served, and one slot with the value.
-- Whoever draws a ticket waits until that many calls were served. Then the value is its own until it serves the next.
use Rattle.std.specs.Prelude.{◌≡◌, ℕ, ◌+◌, ◌^◌, ◌<◌, ◌≤◌, List, [], ◌∷◌, ◌++◌, length, true, false, cond, nat_lt, Option, Some, None}
use Rattle.sat_base.specs.declared.limits.TheConstants as limits
use mathlib.Core.Option.{some, none}
use mathlib.Core.Option as maybe
use lib.ListN.{get_elem?}
use Rattle.atomic_table.specs.Table.{State}
use Rattle.turnstile.specs.declared.entry.Entry.{Entry}
use Rattle.turnstile.specs.declared.view.Part.{Part}
use Rattle.turnstile.specs.declared.view.SeatView.{SeatView}
use Rattle.turnstile.specs.History.{has, none_own, Each, total}

-- The seat answers for these numbers, and has seen all entries that have one of them.
module _ {C A : Type 0} (history : List (Entry C A)) (owner : ℕ → ℕ) (seat : ℕ) where
  abbrev pub Answers : List ℕ → List (Entry C A) → Type 0
  Answers numbers seen = (later : List (Entry C A)) × (history ≡ seen ++ later) × (none_own numbers later ≡ true) × ((n : ℕ) → has numbers n ≡ true → owner n ≡ seat)

-- A mark is a ticket that the term has no place for. It weighs as much as its seat has parts.
abbrev pub mark_of : ℕ → ℕ → Option ℕ → ℕ
mark_of term parts None = 0
mark_of term parts (Some t) = cond (nat_lt t term) 0 parts

abbrev pub marked : {C A B : Type 0} → ℕ → SeatView C A B → ℕ
marked term v = mark_of term v.parts v.ticket

-- One seat and its view, beside the history. `holder` names the seat that drew a ticket, and `owner` the one seat
-- with which a pass number stands, so that no number and no ticket below the term is ever with two.
pub record Fits {C A B : Type 0} (b : B) (term : ℕ) (history : List (Entry C A)) (drawn : ℕ) (holder owner : ℕ → ℕ) (seat : ℕ) (v : SeatView C A B) : Type 0 where
  -- all passes tell the base and the term that the desk began with. A spent seat has no base to tell
  pub same_base : 0 < v.parts → v.base ≡ b
  pub same_term : 0 < v.parts → v.term ≡ term
  -- what a pass has seen begins the history, and nothing of its own came later: so its own entries are those it made
  pub answers : Answers history owner seat v.numbers v.seen
  -- the same of each of two passes that were just joined, which is what a join owes to its caller
  pub rejoined : (k : ℕ) (p : Part C A) → get_elem? v.joined k ≡ some p → Answers history owner seat p.numbers p.seen
  -- the numbers that it may give away stand with it alone, so no number is given twice
  pub range_owned : (n : ℕ) → v.number ≤ n → n < v.number + v.spare → owner n ≡ seat
  -- but for its own, it doesn't answer for them yet, so a number that is given away has no entry
  pub range_unused : (n : ℕ) → v.number < n → n < v.number + v.spare → has v.numbers n ≡ false
  -- a ticket was drawn, so nobody makes one up
  pub drew : (t : ℕ) → v.ticket ≡ Some t → t < drawn
  -- a ticket below the term wasn't served yet, and is with the seat that drew it
  pub waits : (t : ℕ) → v.ticket ≡ Some t → t < term → (length history ≤ t) × (holder t ≡ seat)
  -- the turn is with the ticket that is served next, and its pass has seen all
  pub on_turn : v.turn ≡ true → (v.ticket ≡ Some (length history)) × (length history < term) × (v.seen ≡ history)
  -- a seat that was joined into another can do no more
  pub spent : v.parts ≡ 0 → (v.numbers ≡ []) × (v.ticket ≡ None) × (v.turn ≡ false)

module _ {V C A B : Type 0} (base : V → B) (entries : V → List (Entry C A)) (room : V → ℕ) where
  -- The value stands for this history, and has room for the term.
  pub record Stands (b : B) (term : ℕ) (history : List (Entry C A)) (x : V) : Type 0 where
    pub base_is : base x ≡ b
    pub entries_are : entries x ≡ history
    pub roomy : term ≤ room x

  -- The slot is empty only while some pass has the turn. A value that is home stands for the whole history.
  abbrev pub Rests : B → ℕ → List (Entry C A) → List (SeatView C A B) → maybe.Option V → Type 0
  Rests b term history views none = (seat : ℕ) × (v : SeatView C A B) × (get_elem? views seat ≡ some v) × (v.turn ≡ true)
  Rests b term history views (some x) = Stands b term history x

  pub record DeskRule (lawful : B → List (Entry C A) → Type 0) (b : B) (term : ℕ) (s : State V (SeatView C A B)) : Type 0 where
    -- there is one history
    pub history : List (Entry C A)
    -- how many tickets were drawn
    pub drawn : ℕ
    -- the slot
    pub home : maybe.Option V
    -- who drew each ticket
    pub holder : ℕ → ℕ
    -- with whom each pass number stands
    pub owner : ℕ → ℕ
    -- no term is longer, so that the tickets fit their word
    pub small : term ≤ limits.TERM
    -- the second word is the length of the history: a ticket that equals it is the place of the next entry
    pub words_are : s.words ≡ drawn ∷ length history ∷ []
    pub homes_are : s.homes ≡ home ∷ []
    -- each turn keeps the law of the value, and nothing but a turn adds an entry
    pub just : lawful b history
    -- no entry stands beyond the term
    pub short : length history ≤ term
    -- nothing is served that wasn't drawn
    pub behind : length history ≤ drawn
    -- each seat's view fits
    pub each_seat : (seat : ℕ) (v : SeatView C A B) → get_elem? s.views seat ≡ some v → Fits b term history drawn holder owner seat v
    -- a ticket that was drawn below the term and not served yet is still in somebody's hand: none is skipped or lost
    pub waiting : (t : ℕ) → length history ≤ t → t < drawn → t < term → (v : SeatView C A B) × (get_elem? s.views (holder t) ≡ some v) × (v.ticket ≡ Some t)
    -- each entry's pass number is answered for by one seat, which has seen the entry by `answers`
    pub answered : Each (λ e. (v : SeatView C A B) × (get_elem? s.views (owner e.pass) ≡ some v) × (has v.numbers e.pass ≡ true)) history
    -- the parts are never more or fewer: a pass that has all of them is the only one
    pub whole : total (λ (v : SeatView C A B). v.parts) s.views ≡ 2 ^ 32
    -- each draw past the term leaves a mark, and a marked pass draws no more, so the word of tickets doesn't wrap
    pub marks : drawn ≤ term + total (marked term) s.views
    -- the value
    pub rests : Rests b term history s.views home
