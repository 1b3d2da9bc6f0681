-- Good requests are answered.
use Rattle.std.specs.Prelude.{◌≡◌, ◌⊎◌, ℕ, ◌-◌, ◌^◌, ◌<◌, List, take, Bool, true, false, Ok, Some}
use Rattle.sat_base.specs.Outside.{About, with_end}
use Rattle.desk_runs.specs.Entered.{At}
use Rattle.machine_calls.specs.declared.reply.Reply.{Reply}
use Rattle.machine_calls.specs.declared.reply.Reply.TheVariants as replies
use Rattle.machine_step.specs.Tables.{Tables}
use Rattle.machine_step.specs.Step.{case_of, is_stopping, step}
use Rattle.http_edge.specs.Answers.{answer_text, edge_text, reply_status}
use Rattle.http_edge.specs.Requests.{Says}
use Rattle.http_edge.specs.declared.errors.EdgeErr.TheVariants.{NoMemory}
use Rattle.machine_calls.specs.declared.wish.Wish.{Wish}
use Rattle.sat_book.specs.Legal.{E, IsHistory, replayed}
use Rattle.sat_sessions.specs.Listening.{Told}
use Rattle.sat_sessions.specs.Serves.{IfEntered}
use Rattle.sat_sessions.specs.Sessions.{Connects, is_full}
use Rattle.sat_sessions.specs.declared.told.SessionEnd.{SessionEnd}
use Rattle.sat_sessions.specs.declared.told.SessionEnd.TheVariants as ends

abbrev pub is_refused : Reply → Bool
is_refused (replies.Refused cause) = true
is_refused _ = false

abbrev pub is_store_fault : Reply → Bool
is_store_fault (replies.StoreFault before after) = true
is_store_fault _ = false

-- the tables that the entries before this one leave
abbrev pub tables_at : Tables → List E → ℕ → Tables
tables_at start history place = replayed start (take place history)

-- nothing stopped the machine before the entry, its call breaks no rule there, and the keeper kept it
pub record Obeys (start : Tables) (history : List E) (place : ℕ) (e : E) : Type 0 where
  pub running : (i : ℕ) (earlier : E) → i < place → At history i earlier → is_stopping earlier.reply ≡ false
  pub rules : is_refused (case_of (tables_at start history place) e.call).reply ≡ false
  pub kept : is_store_fault e.reply ≡ false

-- a count of faults didn't rise, and isn't at the end of its type
abbrev pub Quiet : ℕ → ℕ → Type 0
Quiet before after = (before < 2 ^ 64 - 1) × (after ≡ before)

-- the machine ran as the book was opened: a connection whose bytes say a wish, whose ticket is below the term, whose call obeys, and no count of which rose
pub record IsGood (secret : List ℕ) (start : Tables) (told : Told) (about after : About) (history : List E) (end : SessionEnd) : Type 0 where
  pub begun : start.stopped ≡ false
  pub all : List ℕ
  pub wish : Wish
  pub left : about.left ≡ Some all
  pub says : Says secret all (Ok wish)
  pub below : is_full end ≡ false
  pub obeys : (place : ℕ) (sent : Bool) (e : E) → end ≡ ends.Entered place sent → At history place e → Obeys start history place e
  pub reads : Quiet about.read_faults after.read_faults
  pub writes : Quiet about.write_faults after.write_faults
  pub draws : Quiet told.faults told.faults_after

-- the text is that of the machine's reply, with status 200; or that memory ran out, with status 507
abbrev pub IsDone : List ℕ → Tables → List E → SessionEnd → List ℕ → Type 0
IsDone secret start history (ends.Entered place sent) text = (e : E) × At history place e
    × (((text ≡ answer_text secret (step (tables_at start history place) e.call).reply) × (reply_status (step (tables_at start history place) e.call).reply ≡ 200)) ⊎ (text ≡ edge_text NoMemory))
IsDone secret start history (ends.Edge error sent) text = text ≡ edge_text NoMemory
IsDone secret start history _ text = ⊥

-- it was answered, whole
pub record IsAnswered (secret : List ℕ) (start : Tables) (about after : About) (history : List E) (end : SessionEnd) : Type 0 where
  pub text : List ℕ
  pub is_done : IsDone secret start history end text
  pub written : after.written ≡ with_end about.written text

-- good requests are answered, over each history of a book in which the session's entry stands, if it has one
abbrev pub GoodAreAnswered : Type 0
GoodAreAnswered = (secret : List ℕ) (start : Tables) (count term : ℕ) (told : Told) (about after : About) (history : List E) (end : SessionEnd)
    → IfEntered end (IsHistory start count history) → Connects secret term told about after history end
    → IsGood secret start told about after history end → IsAnswered secret start about after history end
