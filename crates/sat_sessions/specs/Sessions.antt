-- What a session comes to, on its link and over a history of which its entry is one.
use Rattle.std.specs.Prelude.{◌≡◌, ℕ, ◌≤◌, List, [], ◌∷◌, length, Bool, true, false, Option, Some, None}
use Rattle.sat_base.specs.Outside.{About, CountsExactly}
use Rattle.sat_base.specs.Streams.{Took, Wrote}
use Rattle.turnstile.specs.Known.{Known}
use Rattle.desk_runs.specs.Entered.{At}
use Rattle.machine_calls.specs.declared.call.Call.{Call}
use Rattle.machine_calls.specs.declared.refusal.Refusal.{Refusal}
use Rattle.machine_calls.specs.declared.refusal.Refusal.TheVariants as refusals
use Rattle.machine_calls.specs.declared.reply.Reply.{Reply}
use Rattle.machine_calls.specs.declared.reply.Reply.TheVariants as replies
use Rattle.http_edge.specs.Requests.{MayRead, max_request}
use Rattle.sat_book.specs.Legal.{E}
use Rattle.sat_book.specs.declared.opening.Origin.{Origin}
use Rattle.sat_sessions.specs.Listening.{Told, Hears, failed_to_draw, failed_to_read}
use Rattle.sat_sessions.specs.Speaking.{Tells}
use Rattle.sat_sessions.specs.declared.listening.Listened.{Listened}
use Rattle.sat_sessions.specs.declared.listening.Listened.TheVariants as listens
use Rattle.sat_sessions.specs.declared.speaking.Said.{Said}
use Rattle.sat_sessions.specs.declared.speaking.Said.TheVariants as says
use Rattle.sat_sessions.specs.declared.told.SessionEnd.{SessionEnd}
use Rattle.sat_sessions.specs.declared.told.SessionEnd.TheVariants as ends

-- what is known of a pass at a desk of books over keepers K
abbrev pub V : Type 0 → Type 0
V K = Known Call Reply (Option (Origin K))

-- the places that a session names
abbrev pub places_of : SessionEnd → List ℕ
places_of (ends.Entered place sent) = place ∷ []
places_of _ = []

abbrev pub is_full : SessionEnd → Bool
is_full (ends.TermFull ticket sent) = true
is_full _ = false

abbrev pub is_words_fault : SessionEnd → Bool
is_words_fault (ends.WordsFault sent) = true
is_words_fault _ = false

-- all that was to be said was sent
abbrev pub sent_of : SessionEnd → Bool
sent_of (ends.Entered place sent) = sent
sent_of (ends.Edge error sent) = sent
sent_of ends.ReadFault = true
sent_of (ends.WordsFault sent) = sent
sent_of (ends.TermFull ticket sent) = sent

-- the machine stops, or has stopped
abbrev pub is_stopped : Refusal → Bool
is_stopped refusals.Stopped = true
is_stopped _ = false

abbrev pub stops_at : Reply → Bool
stops_at replies.Stopping = true
stops_at (replies.Refused cause) = is_stopped cause
stops_at _ = false

-- What was heard where a session ended so, and what is said to it. The call that was heard is that of the entry at the place
-- that it names, and its reply is what is said.
abbrev pub Ends : ℕ → List E → SessionEnd → Listened → Option Said → Type 0
Ends term history (ends.Entered place sent) heard said = (e : E) × At history place e × (heard ≡ listens.Call e.call) × (said ≡ Some (says.Reply e.reply))
Ends term history (ends.Edge error sent) heard said = (heard ≡ listens.Edge error) × (said ≡ Some (says.Edge error))
Ends term history ends.ReadFault heard said = (heard ≡ listens.ReadFault) × (said ≡ None)
Ends term history (ends.WordsFault sent) heard said = (heard ≡ listens.WordsFault) × (said ≡ Some says.Words)
Ends term history (ends.TermFull ticket sent) heard said = (call : Call) × (heard ≡ listens.Call call) × (term ≤ ticket) × (said ≡ Some says.Term)

-- the text of what is said, and none where nothing is
abbrev pub IsText : List ℕ → Option Said → List ℕ → Type 0
IsText secret None text = text ≡ []
IsText secret (Some what) text = Tells secret what text

-- A connection was listened to, by no more reads than its request takes. What was heard is what the bytes that were left say,
-- a fault only where one was counted. It is answered by the reply of its entry, or by its error; the text was written, all of
-- it where it is told so, and else a front of it, since a put failed.
pub record Connects (secret : List ℕ) (term : ℕ) (told : Told) (about after : About) (history : List E) (end : SessionEnd) : Type 0 where
  pub heard : Listened
  pub hears : Hears secret about.left told heard
  pub bytes : List ℕ
  pub few : length bytes ≤ max_request
  pub listened : About
  pub took : Took (MayRead secret) bytes 1 (failed_to_read heard) about listened
  pub drew : CountsExactly (failed_to_draw heard) told.faults told.faults_after
  pub said : Option Said
  pub ended : Ends term history end heard said
  pub text : List ℕ
  pub is_text : IsText secret said text
  pub wrote : Wrote text (sent_of end) listened after
