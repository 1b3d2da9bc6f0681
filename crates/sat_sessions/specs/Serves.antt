-- What a session leaves of its pass and of what it was given.
use Rattle.std.specs.Prelude.{◌≡◌, ℕ, List, [], ◌∷◌, ◌++◌, map, Bool, true, false, Option}
use Rattle.sat_base.specs.Outside.{About}
use Rattle.sat_base.specs.Streams.{Wrote}
use Rattle.desk_runs.specs.Entered.{At, Entered, Marked, place_of}
use Rattle.desk_runs.specs.Runs.{some_is}
use Rattle.sat_book.specs.Book.{AreOf}
use Rattle.sat_book.specs.Legal.{E}
use Rattle.sat_sessions.specs.Draws.{Draws}
use Rattle.sat_sessions.specs.Listening.{Told}
use Rattle.sat_sessions.specs.Sessions.{V, Connects, Ends, IsText, is_full, places_of, sent_of, stops_at}
use Rattle.sat_sessions.specs.declared.listening.Listened.{Listened}
use Rattle.sat_sessions.specs.declared.listening.Listened.TheVariants as listens
use Rattle.sat_sessions.specs.declared.speaking.Said.{Said}
use Rattle.sat_sessions.specs.declared.told.SessionEnd.{SessionEnd}
use Rattle.sat_sessions.specs.declared.told.SessionEnd.TheVariants as ends

-- what has an entry
abbrev pub IfEntered : SessionEnd → Type 0 → Type 0
IfEntered (ends.Entered place sent) P = P
IfEntered _ P = Unit {0}

-- the session's entry, if it has one, has a reply at which its worker stops
abbrev pub StopsAt : SessionEnd → List E → Type 0
StopsAt (ends.Entered place sent) history = (e : E) × At history place e × (stops_at e.reply ≡ true)
StopsAt _ history = ⊥

abbrev pub IfStops : Bool → SessionEnd → List E → Type 0
IfStops true end history = StopsAt end history
IfStops false end history = Unit {0}

-- an entry at whose reply its worker stops
abbrev pub is_stop : E → Bool
is_stop e = stops_at e.reply

-- a worker that stopped made just the last of its entries so, and any other worker none of them
abbrev pub StopsLast : Bool → List E → Type 0
StopsLast true made = (front : List E) × (last : E) × (made ≡ front ++ last ∷ []) × (some_is is_stop front ≡ false) × (is_stop last ≡ true)
StopsLast false made = some_is is_stop made ≡ false

-- at most one entry was made, of the call that was heard
abbrev pub IsOf : Listened → List E → Type 0
IsOf heard [] = Unit {0}
IsOf heard (e ∷ []) = heard ≡ listens.Call e.call
IsOf heard (e ∷ f ∷ more) = ⊥

-- what was heard is entered once, or isn't where it is no call or the term is full; and it is answered
pub record Answers {K : Type 0} (secret : List ℕ) (before : V K) (heard : Listened) (listened after : About) (end : SessionEnd) (stops : Bool) (k : V K) : Type 0 where
  pub new : List E
  pub entered : Entered before new k
  pub named : map place_of new ≡ places_of end
  pub is_of : IsOf heard new
  pub full : is_full end ≡ true → Marked k
  pub lawful : IfEntered end (AreOf before.base k.seen)
  pub stopped : IfStops stops end k.seen
  pub stops_are : some_is is_stop new ≡ stops
  pub said : Option Said
  pub ended : Ends before.desk.term k.seen end heard said
  pub text : List ℕ
  pub is_text : IsText secret said text
  pub wrote : Wrote text (sent_of end) listened after

-- A session: it entered just the entry that it names, of the call that it heard, and what the pass has seen is then a history
-- of the book. Its moment and words are those that its clock and source gave.
pub record Serves {K : Type 0} (secret : List ℕ) (before : V K) (told : Told) (about after : About) (end : SessionEnd) (stops : Bool) (k : V K) : Type 0 where
  pub new : List E
  pub entered : Entered before new k
  pub named : map place_of new ≡ places_of end
  pub full : is_full end ≡ true → Marked k
  pub lawful : IfEntered end (AreOf before.base k.seen)
  pub connects : Connects secret before.desk.term told about after k.seen end
  pub draws : Draws told new
  -- its worker stops exactly where its entry tells that the machine stops or has stopped
  pub stops_are : some_is is_stop new ≡ stops
