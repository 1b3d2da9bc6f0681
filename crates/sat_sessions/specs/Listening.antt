-- What comes of listening to a connection: the call of its wish, with a moment of the clock and random words.
use Rattle.std.specs.Prelude.{◌≡◌, ◌≢◌, ℕ, ◌-◌, ◌<◌, List, [], ◌∷◌, length, min, Bool, true, false, Option, Some, Result, Ok, Err}
use Rattle.sat_base.specs.declared.limits.TheConstants as limits
use Rattle.sat_base.specs.Clock.{or_zero}
use Rattle.sat_base.specs.Outside.{with_front}
use Rattle.machine_calls.specs.declared.call.Call.{Call}
use Rattle.machine_calls.specs.declared.call.Call.TheVariants as calls
use Rattle.http_edge.specs.Requests.{Says}
use Rattle.http_edge.specs.declared.errors.EdgeErr.{EdgeErr}
use Rattle.http_edge.specs.declared.errors.EdgeErr.TheVariants.{NoMemory}
use Rattle.machine_calls.specs.declared.wish.Wish.{Wish}
use Rattle.machine_step.specs.Step.{words_for}
use Rattle.sat_sessions.specs.declared.listening.Listened.{Listened}
use Rattle.sat_sessions.specs.declared.listening.Listened.TheVariants as listens

-- what a clock and a source of words tell before and after
pub record Told : Type 0 where
  pub coming : Option (List ℕ)
  pub coming_after : Option (List ℕ)
  pub words : Option (List ℕ)
  pub words_after : Option (List ℕ)
  -- how many draws have failed
  pub faults : ℕ
  pub faults_after : ℕ

-- no moment and no word were taken, and no draw failed
pub record TakesNone (told : Told) : Type 0 where
  pub moments : told.coming_after ≡ told.coming
  pub words : told.words_after ≡ told.words
  pub faults : told.faults_after ≡ told.faults

-- the clock's next moment was taken, and the next words were drawn
pub record Takes (told : Told) (moment : ℕ) (drawn : List ℕ) : Type 0 where
  pub timed : or_zero told.coming ≡ with_front (moment ∷ []) told.coming_after
  pub fresh : told.words ≡ with_front drawn told.words_after

-- a call is that of the wish, at the clock's next moment and with the next words, as many as it takes
pub record IsCallOf (wish : Wish) (told : Told) (call : Call) : Type 0 where
  pub moment : ℕ
  pub drawn : List ℕ
  pub takes : Takes told moment drawn
  pub count : length drawn ≡ words_for wish
  pub is_call : call ≡ calls.Asked (min moment (limits.MOMENTS - 1)) drawn wish

-- fewer words came than the wish takes
pub record LacksWords (wish : Wish) (told : Told) : Type 0 where
  pub moment : ℕ
  pub drawn : List ℕ
  pub takes : Takes told moment drawn
  pub few : length drawn < words_for wish

-- the bytes that are left, where they are told, say this
abbrev pub SaysLeft : List ℕ → Option (List ℕ) → Result Wish EdgeErr → Type 0
SaysLeft secret left said = (all : List ℕ) → left ≡ Some all → Says secret all said

-- what comes of a wish: its call, or words or memory run out
abbrev pub Enters : Wish → Told → Listened → Type 0
Enters wish told (listens.Call call) = IsCallOf wish told call
Enters wish told (listens.Edge error) = TakesNone told × (error ≡ NoMemory)
Enters wish told listens.ReadFault = ⊥
Enters wish told listens.WordsFault = LacksWords wish told

-- what comes of the bytes that a connection has left: the call of the wish that they say, or the error that they say,
-- unless a read failed or memory ran out
abbrev pub Hears : List ℕ → Option (List ℕ) → Told → Listened → Type 0
Hears secret left told (listens.Call call) = (wish : Wish) × IsCallOf wish told call × SaysLeft secret left (Ok wish)
Hears secret left told (listens.Edge error) = TakesNone told × (error ≢ NoMemory → SaysLeft secret left (Err error))
Hears secret left told listens.ReadFault = TakesNone told
Hears secret left told listens.WordsFault = (wish : Wish) × LacksWords wish told × SaysLeft secret left (Ok wish)

abbrev pub failed_to_read : Listened → Bool
failed_to_read listens.ReadFault = true
failed_to_read _ = false

abbrev pub failed_to_draw : Listened → Bool
failed_to_draw listens.WordsFault = true
failed_to_draw _ = false

-- a property of the call, if there is one
abbrev pub IfCall : Listened → (Call → Type 0) → Type 0
IfCall (listens.Call call) P = P call
IfCall _ P = Unit {0}
