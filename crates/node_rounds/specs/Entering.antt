-- What comes of entering a plan, and of entering its end.
use Rattle.std.specs.Prelude.{◌≡◌, ℕ, ◌≤◌, List, [], ◌∷◌, Option, Some, None, Result, Ok, Err}
use Rattle.std.specs.Global.{Vec}
use Rattle.sat_base.specs.Clock.{or_zero}
use Rattle.sat_base.specs.Outside.{with_front}
use Rattle.machine_calls.specs.declared.reply.Reply.{Reply}
use Rattle.sat_sessions.specs.Draws.{as_moment}
use Rattle.sat_sessions.specs.Sessions.{V}
use Rattle.sat_sessions.specs.declared.rounds.RoundEnd.{RoundEnd}
use Rattle.sat_sessions.specs.declared.rounds.RoundEnd.TheVariants as ends
use Rattle.node_rounds.specs.declared.upkeep.Found.{Found}
use Rattle.node_rounds.specs.declared.upkeep.Upkeep.{Upkeep}
use Rattle.node_rounds.specs.Calls.{Names, Turns}
use Rattle.node_rounds.specs.Parts.{S, FailsToDraw, Readied}
use Rattle.node_rounds.specs.Upkeep.{end_call, plan_call, went_at, words_of}

-- words ran out, or the term is full
abbrev pub FailsToOpen : {K : Type 0} → Upkeep → S → V K → RoundEnd → S → V K → Vec ℕ → Vec ℕ → Type 0
FailsToOpen kind s k (ends.TermFull ticket) s' k' old new =
    (drawn : List ℕ) × (moment : ℕ) × Readied kind s drawn moment s' × Turns k (plan_call kind (as_moment moment) drawn) (Err ticket) k' old new
FailsToOpen kind s k end s' k' old new = FailsToDraw (words_of kind) s end s' × (k' ≡ k) × (new ≡ old)

-- a plan was entered and answered so, or it wasn't
abbrev pub Opens : {K : Type 0} → Upkeep → S → V K → Result Reply RoundEnd → S → V K → Vec ℕ → Vec ℕ → Type 0
Opens kind s k (Ok reply) s' k' old new =
    (drawn : List ℕ) × (moment : ℕ) × Readied kind s drawn moment s' × Turns k (plan_call kind (as_moment moment) drawn) (Ok reply) k' old new
Opens kind s k (Err end) s' k' old new = FailsToOpen kind s k end s' k' old new

-- how a round goes on after a call that was answered so, or met the full term
abbrev pub went_after : Result Reply ℕ → Option RoundEnd
went_after (Ok reply) = went_at reply
went_after (Err ticket) = Some (ends.TermFull ticket)

-- the end was entered at the clock's next moment, and the round goes on as its reply has it; or the term is full
pub record Finishes {K : Type 0} (found : Found) (coming : Option (List ℕ)) (k : V K) (went : Option RoundEnd) (coming' : Option (List ℕ)) (k' : V K) (old new : Vec ℕ) : Type 0 where
  pub moment : ℕ
  pub timed : or_zero coming ≡ with_front (moment ∷ []) coming'
  pub answered : Result Reply ℕ
  pub turns : Turns k (end_call found (as_moment moment)) answered k' old new
  pub went_is : went ≡ went_after answered
