-- A refusal changes nothing.
use Rattle.std.proofs.Common.{◌≡◌, Bool, true, false, [], refl, ap, ◌∙◌, arith}
use Rattle.std.specs.Prelude.{◌||◌, if◌then◌else◌}
use Rattle.machine_calls.specs.declared.refusal.Refusal.TheVariants as refusals
use Rattle.machine_step.specs.Outcome.{refused}
use Rattle.machine_step.specs.Containment.{with_releases, swept}
use Rattle.std.proofs.lemmas.Bool.Decides.{nat_tests}
use Rattle.machine_calls.specs.declared.call.Call.{Call}
use Rattle.machine_calls.specs.declared.call.Call.TheVariants as calls
use Rattle.machine_calls.specs.declared.task.Task.TheVariants as tasks
use Rattle.machine_calls.specs.declared.wish.Wish.TheVariants as wishes
use Rattle.machine_calls.specs.declared.refusal.Refusal.{Refusal}
use Rattle.machine_calls.specs.declared.reply.Reply.TheVariants as replies
use Rattle.machine_step.specs.Tables.{Tables, all_changed}
use Rattle.machine_step.specs.Step.{step, case_of, after, is_stopping}

refusal_case : (t : Tables) (call : Call) (cause : Refusal) → (case_of t call).reply ≡ replies.Refused cause → (case_of t call).changes ≡ []
refusal_case t (calls.Asked now words wishes.Stop) cause h = refl
refusal_case t (calls.Own now tasks.TallyHour) cause h = grind (arith, nat_tests)
refusal_case t call cause h = grind (arith, nat_tests)

no_changes : (t : Tables) (call : Call) (cause : Refusal) → (step t call).reply ≡ replies.Refused cause → (step t call).changes ≡ []
no_changes t call cause h = go t.stopped h
  where
    go : (b : Bool) → (if b then refused refusals.Stopped else swept t (case_of t call)).reply ≡ replies.Refused cause → (if b then refused refusals.Stopped else swept t (case_of t call)).changes ≡ []
    go true is = refl
    go false is = ap (with_releases t) (refusal_case t call cause is)

pub refusal_step : (t : Tables) (call : Call) (cause : Refusal) → (step t call).reply ≡ replies.Refused cause → after t call ≡ t
refusal_step t call cause h =
    let none : (step t call).changes ≡ [] = no_changes t call cause h in
    let going : is_stopping (step t call).reply ≡ false = ap is_stopping h in
    let or_false : (b : Bool) → (b || false) ≡ b = λ b. elim b as (λ v. (v || false) ≡ v) [ true ↦ refl | false ↦ refl ] in
    ap (λ cs. record (all_changed t cs) { stopped = (all_changed t cs).stopped || is_stopping (step t call).reply }) none
    ∙ ap (λ b. record t { stopped = t.stopped || b }) going ∙ ap (λ b. record t { stopped = b }) (or_false t.stopped)
