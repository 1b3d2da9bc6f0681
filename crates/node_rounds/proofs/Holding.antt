-- Each accepted end of a round holds the plan that was open.
use Rattle.std.proofs.Common.{◌≡◌, ℕ, List, [], ◌∷◌, Bool, true, false, Option, Some, None, sym, ap, ◌∙◌, refl}
use Rattle.std.specs.Prelude.{IsSomeAnd}
use Rattle.turnstile.specs.History.{Each}
use Rattle.desk_runs.specs.Entered.{At}
use Rattle.machine_calls.specs.declared.call.Call.{Call}
use Rattle.machine_calls.specs.declared.call.Call.TheVariants as calls
use Rattle.machine_calls.specs.declared.task.Task.TheVariants as tasks
use Rattle.machine_calls.specs.declared.reply.Reply.{Reply}
use Rattle.machine_calls.specs.declared.reply.Reply.TheVariants as replies
use Rattle.machine_calls.specs.Replies.{is_lost}
use Rattle.machine_step.specs.Step.{step}
use Rattle.machine_step.specs.Tables.{Tables}
use Rattle.machine_plans.specs.Opened.{is_accepted}
use Rattle.machine_plans.proofs.Held.{audit_holds, exit_holds, recheck_holds, repair_holds}
use Rattle.sat_base.specs.declared.scheme.Scheme.{Scheme}
use Rattle.sat_book.specs.Book.{AreOf, start_of}
use Rattle.sat_book.specs.Legal.{E, IsHistory}
use Rattle.sat_book.specs.declared.opening.Origin.{Origin}
use Rattle.sat_sessions.specs.Good.{tables_at}
use Rattle.sat_sessions.specs.Sessions.{V}
use Rattle.sat_sessions.proofs.Legality.{right_at}
use Rattle.node_rounds.specs.Calls.{AreLawful}
use Rattle.node_rounds.specs.Held.{HoldOpen, HoldsOpen}
use Rattle.node_rounds.proofs.Answering.{OfStore}

accepted_kept : (reply : Reply) → is_accepted reply ≡ true → is_lost reply ≡ false
accepted_kept (replies.StoreFault before after) is = absurd cc
accepted_kept replies.NoMemory is = absurd cc
accepted_kept _ is = refl

holds_by_step : (t : Tables) (call : Call) (reply : Reply) → (is_lost reply ≡ false → reply ≡ (step t call).reply) → HoldsOpen t call reply
holds_by_step t (calls.Own now (tasks.EndAudit judged)) reply right = λ is. audit_holds t now judged (ap is_accepted (sym (right (accepted_kept reply is))) ∙ is)
holds_by_step t (calls.Own now (tasks.EndRecheck plan checked)) reply right = λ is. recheck_holds t now plan checked (ap is_accepted (sym (right (accepted_kept reply is))) ∙ is)
holds_by_step t (calls.Own now (tasks.EndRepair outcome)) reply right = λ is. repair_holds t now outcome (ap is_accepted (sym (right (accepted_kept reply is))) ∙ is)
holds_by_step t (calls.Own now (tasks.EndExit outcome)) reply right = λ is. exit_holds t now outcome (ap is_accepted (sym (right (accepted_kept reply is))) ∙ is)
holds_by_step t _ reply right = tt

each_holds : {K : Type 0} (origin : Origin K) (history new : List E) → IsHistory (start_of origin.opening) origin.opening.faults history → Each (λ e. At history e.place e) new
    → Each (λ e. HoldsOpen (tables_at (start_of origin.opening) history e.place) e.call e.reply) new
each_holds origin history [] lawful stand = tt
each_holds origin history (e ∷ new) lawful stand =
    let start = start_of origin.opening in
    (holds_by_step (tables_at start history e.place) e.call e.reply (right_at start origin.opening.faults history e.place e lawful stand.0).answer, each_holds origin history new lawful stand.1)

holds_in : {K : Type 0} (base : Option (Origin K)) (secret : List ℕ) (scheme : Scheme) (history : List E) (e : E) (new : List E) → OfStore base secret scheme → AreOf base history → Each (λ e. At history e.place e) (e ∷ new) → HoldOpen base history (e ∷ new)
holds_in None secret scheme history e new own lawful stand = absurd own
holds_in (Some origin) secret scheme history e new own lawful stand = each_holds origin history (e ∷ new) lawful stand

holds_none : {K : Type 0} (base : Option (Origin K)) (secret : List ℕ) (scheme : Scheme) (history : List E) → OfStore base secret scheme → HoldOpen base history []
holds_none None secret scheme history own = absurd own
holds_none (Some origin) secret scheme history own = tt

pub hold_open : {K : Type 0} (k : V K) (secret : List ℕ) (scheme : Scheme) (new : List E) (k' : V K) → OfStore k.base secret scheme → AreLawful k new k' → Each (λ e. At k'.seen e.place e) new → HoldOpen k.base k'.seen new
hold_open k secret scheme [] k' own lawful stand = holds_none k.base secret scheme k'.seen own
hold_open k secret scheme (e ∷ new) k' own lawful stand = holds_in k.base secret scheme k'.seen e new own lawful stand
