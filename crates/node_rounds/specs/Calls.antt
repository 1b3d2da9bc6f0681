-- What one call at the desk leaves of a pass and of the places that a round names.
use Rattle.std.specs.Prelude.{◌≡◌, ℕ, ◌+◌, ◌≤◌, List, [], ◌∷◌, ◌++◌, length, map, Option, Some, None, Result, Ok, Err, vec_capacity}
use Rattle.std.specs.Global.{Vec}
use Rattle.turnstile.specs.History.{Each}
use Rattle.turnstile.specs.Known.{Enters, with_mark}
use Rattle.desk_runs.specs.Entered.{At, Entered, Marked, place_of}
use Rattle.machine_calls.specs.declared.call.Call.{Call}
use Rattle.machine_calls.specs.declared.reply.Reply.{Reply}
use Rattle.sat_book.specs.Book.{AreOf}
use Rattle.sat_book.specs.Legal.{E}
use Rattle.sat_sessions.specs.Sessions.{V}
use Rattle.sat_sessions.specs.declared.rounds.RoundEnd.{RoundEnd}
use Rattle.sat_sessions.specs.declared.rounds.RoundEnd.TheVariants as ends

-- the places that are named: so many more, in the room that there was
pub record Names (more : List ℕ) (old new : Vec ℕ) : Type 0 where
  pub items : new.items ≡ old.items ++ more
  pub room : vec_capacity new ≡ vec_capacity old

-- a call was entered, and answered so; or the ticket is at or above the term
abbrev pub Turns : {K : Type 0} → V K → Call → Result Reply ℕ → V K → Vec ℕ → Vec ℕ → Type 0
Turns k call (Ok reply) k' old new = (place : ℕ) × Enters AreOf k call reply place k' × Names (place ∷ []) old new
Turns k call (Err ticket) k' old new = (k' ≡ with_mark k ticket) × (k.desk.term ≤ ticket) × Names [] old new

-- what a pass has seen is a history of the book, where an entry was made
abbrev pub AreLawful : {K : Type 0} → V K → List E → V K → Type 0
AreLawful k [] k' = Unit {0}
AreLawful k (e ∷ more) k' = AreOf k.base k'.seen

-- where the term is full, the ticket is at or above it, and the pass has a mark
abbrev pub IfFull : {K : Type 0} → V K → Option RoundEnd → V K → Type 0
IfFull k (Some (ends.TermFull ticket)) k' = Marked k' × (k.desk.term ≤ ticket)
IfFull k _ k' = Unit {0}

-- these entries were made, in order, and their places are named
pub record Makes {K : Type 0} (k : V K) (new : List E) (went : Option RoundEnd) (k' : V K) (old_places new_places : Vec ℕ) : Type 0 where
  pub entered : Entered k new k'
  pub named : Names (map place_of new) old_places new_places
  pub lawful : AreLawful k new k'
  pub stand : Each (λ e. At k'.seen e.place e) new
  pub still : new ≡ [] → k'.seen ≡ k.seen
  pub full : IfFull k went k'
