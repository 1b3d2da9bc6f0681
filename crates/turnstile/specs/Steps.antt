-- What each step at the table does to a seat's view, and what it tells.
use Rattle.std.specs.Prelude.{◌≡◌, ℕ, ◌+◌, ◌-◌, ◌/◌, ◌^◌, ◌<◌, ◌≤◌, List, [], ◌∷◌, ◌++◌, length, true, false, Option, Some, None}
use mathlib.Core.Option.{some}
use lib.ListN.{get_elem?}
use Rattle.atomic_table.specs.Table.{Me, Step, rest}
use Rattle.turnstile.specs.declared.entry.Entry.{Entry}
use Rattle.turnstile.specs.declared.view.Part.{Part}
use Rattle.turnstile.specs.declared.view.SeatView.{SeatView}
use Rattle.turnstile.specs.History.{has, StartsWith, own}
use Rattle.turnstile.specs.Rule.{Stands}
use Rattle.turnstile.specs.Known.{or_else, longer}

module _ {C A B : Type 0} where
  -- the first seat
  abbrev pub opener : B → ℕ → SeatView C A B
  opener b term = record { base = b; term = term; number = 0; numbers = 0 ∷ []; seen = []; spare = 2 ^ 32; parts = 2 ^ 32; ticket = None; turn = false; joined = [] }

  abbrev pub with_ticket : SeatView C A B → Option ℕ → SeatView C A B
  with_ticket v t = record v { ticket = t }

  -- the turn has come, after this history
  abbrev pub at_turn : SeatView C A B → List (Entry C A) → SeatView C A B
  at_turn v history = record v { seen = history; turn = true }

  abbrev pub after_turn : SeatView C A B → List (Entry C A) → SeatView C A B
  after_turn v history = record v { seen = history; ticket = None; turn = false }

module _ {V C A B : Type 0} where
  -- a draw: the number found is the ticket
  abbrev pub drew : Step V → Me V (SeatView C A B) → ℕ → Me V (SeatView C A B) → Type 0
  drew st m r m' = m' ≡ (with_ticket m.0 (Some r), m.1)

  -- The turn has come, and the value is in hand. It stands for a history of which the pass had seen all that is its own.
  pub record Came (base : V → B) (entries : V → List (Entry C A)) (room : V → ℕ) (lawful : B → List (Entry C A) → Type 0) (m : Me V (SeatView C A B)) (t : ℕ) (m' : Me V (SeatView C A B)) : Type 0 where
    pub value : V
    pub history : List (Entry C A)
    pub is : m' ≡ (at_turn m.0 history, (0, value) ∷ m.1)
    pub stands : Stands base entries room m.0.base m.0.term history value
    pub just : lawful m.0.base history
    pub place : length history ≡ t
    pub begins : StartsWith history m.0.seen
    pub same_own : own m.0.numbers history ≡ own m.0.numbers m.0.seen

  -- a look at the number served: where it is the ticket, the turn has come, and else nothing changes
  abbrev pub looked : (V → B) → (V → List (Entry C A)) → (V → ℕ) → (B → List (Entry C A) → Type 0) → Step V → Me V (SeatView C A B) → ℕ → Me V (SeatView C A B) → Type 0
  looked base entries room lawful st m r m' = (m.0.ticket ≡ Some r → Came base entries room lawful m r m') × (¬ (m.0.ticket ≡ Some r) → m' ≡ m)

  -- the value goes home, and the pass has seen all that it stands for
  abbrev pub served : (V → List (Entry C A)) → Step V → Me V (SeatView C A B) → ℕ → Me V (SeatView C A B) → Type 0
  served entries st m r m' = (x : V) → m.1 ≡ (0, x) ∷ rest m.1 → m' ≡ (after_turn m.0 (entries x), rest m.1)

  -- before a split: a number that is still to be given away is none that the pass answers for, and no entry that was seen has it
  abbrev pub vacant : Step V → Me V (SeatView C A B) → ℕ → Me V (SeatView C A B) → Type 0
  vacant st m r m' = (m' ≡ m) × ((n : ℕ) → m.0.number < n → n < m.0.number + m.0.spare → own (n ∷ []) m.0.seen ≡ [])
      × ((n : ℕ) → m.0.number < n → n < m.0.number + m.0.spare → has m.0.numbers n ≡ false)

module _ {C A B : Type 0} where
  abbrev pub left_half : SeatView C A B → SeatView C A B
  left_half v = record v { spare = v.spare - v.spare / 2; parts = v.parts - v.parts / 2 }

  abbrev pub second_number : SeatView C A B → ℕ
  second_number v = v.number + (v.spare - v.spare / 2)

  abbrev pub right_half : SeatView C A B → SeatView C A B
  right_half v = record v { number = second_number v; numbers = second_number v ∷ []; spare = v.spare / 2; parts = v.parts / 2; joined = [] }

  abbrev pub part_of : SeatView C A B → Part C A
  part_of v = record { numbers = v.numbers; seen = v.seen }

  abbrev pub both : SeatView C A B → SeatView C A B → SeatView C A B
  both v w = record v { numbers = v.numbers ++ w.numbers; seen = longer v.seen w.seen; parts = v.parts + w.parts; ticket = or_else v.ticket w.ticket; joined = part_of v ∷ part_of w ∷ [] }

  -- a seat that was joined into another
  abbrev pub nobody : B → SeatView C A B
  nobody b = record { base = b; term = 0; number = 0; numbers = []; seen = []; spare = 0; parts = 0; ticket = None; turn = false; joined = [] }

  abbrev pub without_parts : SeatView C A B → SeatView C A B
  without_parts v = record v { joined = [] }

-- none of the numbers of a part has an entry that the part hadn't seen
pub record Holds {C A : Type 0} (seen : List (Entry C A)) (p : Part C A) : Type 0 where
  pub begins : StartsWith seen p.seen
  pub same_own : (n : ℕ) → has p.numbers n ≡ true → own (n ∷ []) seen ≡ own (n ∷ []) p.seen

module _ {V C A B : Type 0} where
  -- after a join: what was seen holds each of the two
  abbrev pub recalled : Step V → Me V (SeatView C A B) → ℕ → Me V (SeatView C A B) → Type 0
  recalled st m r m' = (m' ≡ (without_parts m.0, m.1)) × ((k : ℕ) (p : Part C A) → get_elem? m.0.joined k ≡ some p → length p.seen ≤ length m.0.seen → Holds m.0.seen p)
