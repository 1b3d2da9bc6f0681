-- The moments and words of a worker's calls, among those that its clock and its source of words gave.
use Rattle.std.specs.Prelude.{◌≡◌, ◌⊎◌, ℕ, ◌-◌, List, [], ◌∷◌, map, min, flat_map, Option}
use Rattle.sat_base.specs.declared.limits.TheConstants as limits
use Rattle.sat_base.specs.Clock.{or_zero}
use Rattle.sat_base.specs.Outside.{with_front}
use Rattle.machine_calls.specs.declared.call.Call.{Call}
use Rattle.machine_calls.specs.declared.call.Call.TheVariants as calls
use Rattle.machine_calls.specs.declared.task.Task.TheVariants as tasks
use Rattle.machine_step.specs.Step.{moment_of}
use Rattle.sat_book.specs.Legal.{E}
use Rattle.sat_sessions.specs.Listening.{Told}

-- the clock gave these moments
abbrev pub Gives : Option (List ℕ) → List ℕ → Option (List ℕ) → Type 0
Gives coming [] after = after ≡ coming
Gives coming (m ∷ ms) after = (rest : Option (List ℕ)) × (or_zero coming ≡ with_front (m ∷ []) rest) × Gives rest ms after

-- these stand in this order among those
abbrev pub IsAmong : List ℕ → List ℕ → Type 0
IsAmong [] ys = Unit {0}
IsAmong (x ∷ xs) [] = ⊥
IsAmong (x ∷ xs) (y ∷ ys) = ((x ≡ y) × IsAmong xs ys) ⊎ IsAmong (x ∷ xs) ys

-- a moment of a clock, as calls have it
abbrev pub as_moment : ℕ → ℕ
as_moment given = min given (limits.MOMENTS - 1)

-- the moment of a call
abbrev pub moments_in : Call → List ℕ
moments_in call = moment_of call ∷ []

-- the random words of a call
abbrev pub words_in : Call → List ℕ
words_in (calls.Asked now words wish) = words
words_in (calls.Own now (tasks.PlanAudit words)) = words
words_in (calls.Own now (tasks.PlanRepair words)) = words
words_in (calls.Own now (tasks.PlanExit words)) = words
words_in (calls.Own now _) = []

abbrev pub moments_of : List E → List ℕ
moments_of entries = flat_map (λ e. moments_in e.call) entries

abbrev pub words_of : List E → List ℕ
words_of entries = flat_map (λ e. words_in e.call) entries

-- the moments and the words of the calls that were entered are those that the clock and the source of words gave
pub record Draws (told : Told) (new : List E) : Type 0 where
  pub gave : List ℕ
  pub gives : Gives told.coming gave told.coming_after
  pub moments : IsAmong (moments_of new) (map as_moment gave)
  pub drew : List ℕ
  pub draws : told.words ≡ with_front drew told.words_after
  pub words : IsAmong (words_of new) drew
