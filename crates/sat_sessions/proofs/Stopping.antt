-- A machine stops by a stop alone.
use Rattle.std.proofs.Common.{◌≡◌, ℕ, suc, zero, ◌<◌, List, [], ◌∷◌, map, Bool, true, false, refl, sym, ap, ◌∙◌, arith}
use Rattle.std.specs.Prelude.{if◌then◌else◌}
use Rattle.std.proofs.lemmas.Bool.{or_from}
use Rattle.sat_base.specs.declared.records.Key.TheVariants as keys
use Rattle.desk_runs.specs.Entered.{At}
use Rattle.machine_calls.specs.declared.change.RecChange.TheVariants as changes
use Rattle.machine_calls.specs.declared.refusal.Refusal.TheVariants as refusals
use Rattle.machine_calls.specs.Replies.{is_lost}
use Rattle.machine_step.specs.Step.{after, is_stopping, step}
use Rattle.machine_step.specs.Tables.{Tables, all_changed}
use Rattle.machine_history.specs.History.{IsLegal, taken}
use Rattle.sat_book.specs.Legal.{E, said_of}
use Rattle.sat_sessions.specs.Good.{tables_at}
use Rattle.machine_history.proofs.RepeatLemmas.{stopped_stays}

taken_runs : (t : Tables) (e : E) → t.stopped ≡ false → (is_lost e.reply ≡ false → e.reply ≡ (step t e.call).reply) → is_stopping e.reply ≡ false → (taken t (said_of e)).stopped ≡ false
taken_runs t e running right still = go (is_lost e.reply) refl
  where
    go : (b : Bool) → is_lost e.reply ≡ b → (if b then t else after t e.call).stopped ≡ false
    go true lost = running
    go false lost = or_from (all_changed t (step t e.call).changes).stopped (is_stopping (step t e.call).reply)
        (stopped_stays (step t e.call).changes t ∙ running) (ap is_stopping (sym (right lost)) ∙ still)

pub still_runs : (t : Tables) (h : List E) (place : ℕ) → t.stopped ≡ false → IsLegal t (map said_of h) → ((i : ℕ) (e : E) → i < place → At h i e → is_stopping e.reply ≡ false) → (tables_at t h place).stopped ≡ false
still_runs t [] zero running legal none = running
still_runs t [] (suc p) running legal none = running
still_runs t (x ∷ h) zero running legal none = running
still_runs t (x ∷ h) (suc p) running legal none =
    still_runs (taken t (said_of x)) h p (taken_runs t x running legal.0.answer (none 0 x (omega arith) refl)) legal.1 (λ i e below at. none (suc i) e (omega arith) at)
