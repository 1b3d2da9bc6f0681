-- What is known of passes, before and after each call of the desk.
use Rattle.std.specs.Prelude.{◌≡◌, ◌≢◌, ◌⊎◌, ℕ, ◌+◌, ◌-◌, ◌/◌, ◌^◌, ◌<◌, ◌≤◌, List, [], ◌∷◌, ◌++◌, length, true, cond, nat_lt, Option, Some, None}
use Rattle.atomic_table.specs.Seated.{TableId}
use Rattle.turnstile.specs.declared.entry.Entry.{Entry}
use Rattle.turnstile.specs.History.{has, StartsWith, own}
use Rattle.turnstile.specs.Entry.{entry_of}

-- which desk it is, and how many entries its history may have
pub record DeskId : Type 0 where
  pub table : TableId
  pub term : ℕ

-- A pass between two calls, as contracts see it. C is the call, A the reply that an entry keeps, B the base.
pub record Known (C A B : Type 0) : Type 0 where
  -- the desk that it belongs to
  pub desk : DeskId
  -- what no turn changes of the value on the desk
  pub base : B
  -- the number under which it enters calls
  pub number : ℕ
  -- how many numbers it may still give away, from its own on, its own included
  pub spare : ℕ
  -- the numbers that it answers for
  pub numbers : List ℕ
  -- the beginning of the history that it has seen
  pub seen : List (Entry C A)
  -- how many it has of the 2^32 parts that all passes of a desk have together
  pub parts : ℕ
  -- a ticket that it drew at or above the term
  pub mark : Option ℕ

abbrev pub or_else : Option ℕ → Option ℕ → Option ℕ
or_else None y = y
or_else (Some x) y = Some x

abbrev pub longer : {X : Type 0} → List X → List X → List X
longer xs ys = cond (nat_lt (length xs) (length ys)) ys xs

module _ {C A B : Type 0} where
  -- the entries that the pass has seen with one of its numbers
  abbrev pub own_entries : Known C A B → List (Entry C A)
  own_entries k = own k.numbers k.seen

  -- What holds of every pass between two calls. It answers for its own number. The numbers that it may give away are
  -- those from its own on, and fit. It has a part at least for each of them. Its mark is no place of the term.
  pub record Standing (k : Known C A B) : Type 0 where
    pub own_number : has k.numbers k.number ≡ true
    pub some_spare : 0 < k.spare
    pub range : k.number + k.spare ≤ 2 ^ 32
    pub enough_parts : k.spare ≤ k.parts
    pub beyond : (t : ℕ) → k.mark ≡ Some t → k.desk.term ≤ t

  -- what no call that is entered changes of a pass
  pub record SameRights (before after : Known C A B) : Type 0 where
    pub desk : after.desk ≡ before.desk
    pub base : after.base ≡ before.base
    pub number : after.number ≡ before.number
    pub spare : after.spare ≡ before.spare
    pub numbers : after.numbers ≡ before.numbers
    pub parts : after.parts ≡ before.parts

  -- the pass that a desk begins with: it has all numbers and all parts
  abbrev pub first_pass : DeskId → B → Known C A B
  first_pass desk base = record { desk = desk; base = base; number = 0; spare = 2 ^ 32; numbers = 0 ∷ []; seen = []; parts = 2 ^ 32; mark = None }

  abbrev pub with_mark : Known C A B → ℕ → Known C A B
  with_mark k ticket = record k { mark = Some ticket }

  -- One call was entered, after all that the pass had seen. `place` is the ticket that it drew.
  pub record Enters (lawful : B → List (Entry C A) → Type 0) (before : Known C A B) (call : C) (reply : A) (place : ℕ) (after : Known C A B) : Type 0 where
    -- what stood when the turn came
    pub history : List (Entry C A)
    pub begins : StartsWith history before.seen
    pub ticket : place ≡ length history
    pub seen_is : after.seen ≡ history ++ entry_of place before.number call reply ∷ []
    -- the ticket was below the term
    pub within : place < before.desk.term
    pub just : lawful before.base after.seen
    -- of what others entered meanwhile, nothing is its own
    pub own_grew : own_entries after ≡ own_entries before ++ entry_of place before.number call reply ∷ []
    -- a pass with a mark enters nothing
    pub no_mark : before.mark ≡ None
    pub same : after ≡ record before { seen = after.seen }

  -- the half that keeps the pass's number and its entries
  abbrev pub kept_half : Known C A B → Known C A B
  kept_half k = record k { spare = k.spare - k.spare / 2; parts = k.parts - k.parts / 2 }

  -- the first number that the kept half doesn't have
  abbrev pub given_number : Known C A B → ℕ
  given_number k = k.number + (k.spare - k.spare / 2)

  -- the half that is given away: it has a number of its own and has seen as much
  abbrev pub given_half : Known C A B → Known C A B
  given_half k = record k { number = given_number k; numbers = given_number k ∷ []; spare = k.spare / 2; parts = k.parts / 2 }

  -- the pass answers for the number, or may give it away
  abbrev pub IsNumberOf : Known C A B → ℕ → Type 0
  IsNumberOf k n = (has k.numbers n ≡ true) ⊎ ((k.number ≤ n) × (n < k.number + k.spare))

  -- No number is with both passes. So their own differ, and so do those of any passes that they are split into.
  pub record AreApart (one other : Known C A B) : Type 0 where
    pub differ : one.number ≢ other.number
    pub none_of_both : (n : ℕ) → IsNumberOf one n → IsNumberOf other n → ⊥

  -- each number of the one is a number of the other
  abbrev pub HasNumbersOf : Known C A B → Known C A B → Type 0
  HasNumbersOf one other = (n : ℕ) → IsNumberOf one n → IsNumberOf other n

  -- what was seen begins with what the pass had seen, and has the same entries with each of its numbers
  pub record Remembers (seen : List (Entry C A)) (k : Known C A B) : Type 0 where
    pub begins : StartsWith seen k.seen
    pub same_own : (n : ℕ) → has k.numbers n ≡ true → own (n ∷ []) seen ≡ own (n ∷ []) k.seen

  -- one pass was made of two: it keeps the first one's number and what that may give away
  pub record Joined (first second whole : Known C A B) : Type 0 where
    pub is : whole ≡ record first { numbers = first.numbers ++ second.numbers; seen = longer first.seen second.seen; parts = first.parts + second.parts; mark = or_else first.mark second.mark }
    pub of_first : Remembers whole.seen first
    pub of_second : Remembers whole.seen second
