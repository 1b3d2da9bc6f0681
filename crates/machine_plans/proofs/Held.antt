-- An accepted end holds the plan that is open.
use Rattle.std.proofs.Common.{◌≡◌, ℕ, Bool, true, false, not, Option, Some, None, refl, ap, ◌∙◌}
use Rattle.std.specs.Prelude.{if◌then◌else◌}
use Rattle.audit_core.specs.declared.rechecking.RecheckPlan.{RecheckPlan}
use Rattle.audit_core.specs.declared.rechecking.Checked.{Checked}
use Rattle.audit_core.specs.declared.verdict.Judged.{Judged}
use Rattle.repair_core.specs.declared.outcome.RepairOutcome.{RepairOutcome}
use Rattle.repair_core.specs.declared.plan.RepairPlan.{RepairPlan}
use Rattle.machine_calls.specs.declared.call.Call.TheVariants as calls
use Rattle.machine_calls.specs.declared.task.Task.TheVariants as tasks
use Rattle.machine_calls.specs.declared.refusal.Refusal.TheVariants as refusals
use Rattle.machine_step.specs.Tables.{Tables, segment_at}
use Rattle.machine_step.specs.Outcome.{Outcome, unless, if_found}
use Rattle.machine_step.specs.Plans.{same_audit, same_recheck, same_repair, is_open, open_number, version_of}
use Rattle.machine_step.specs.Mending.{plan_of, end_mending_at, end_mending}
use Rattle.machine_step.specs.Step.{risen, step}
use Rattle.machine_step.specs.Calls.EndAudit.{end_audit_of, end_audit}
use Rattle.machine_step.specs.Calls.EndRecheck.{still_owed, recheck_void, recheck_ended, end_recheck}
use Rattle.machine_step.specs.Calls.EndExit.{open_move}
use Rattle.machine_step.proofs.SameLemmas.{same-audit, same-recheck, same-repair, open-is}
use Rattle.machine_plans.specs.Opened.{is_accepted}
use Rattle.machine_plans.proofs.Steps.{running}

-- behind a test that the plan is open nothing else is accepted
holds : {P : Type 0} (same : P → P → Bool) → ((a b : P) → same a b ≡ true → a ≡ b) → (opened : Option P) (plan : P) (number : ℕ) (otherwise : Outcome)
    → is_accepted (unless (not (is_open same opened plan)) (refusals.NoPlan number) otherwise).reply ≡ true → opened ≡ Some plan
holds {P} same equal opened plan number otherwise h = go (is_open same opened plan) refl h
  where
    go : (b : Bool) → is_open same opened plan ≡ b → is_accepted (unless (not b) (refusals.NoPlan number) otherwise).reply ≡ true → opened ≡ Some plan
    go true is h = open-is same equal opened plan is
    go false is h = cc

pub audit_holds : (t : Tables) (now : ℕ) (judged : Judged) → is_accepted (step t (calls.Own now (tasks.EndAudit judged))).reply ≡ true → t.audit ≡ Some judged.plan
audit_holds t now judged h =
    holds same_audit same-audit t.audit judged.plan (open_number (λ plan. plan.plan) t.audit) (end_audit_of t (risen t now) judged (version_of (segment_at t.segments judged.plan.segment.0)))
    (running t (calls.Own now (tasks.EndAudit judged)) is_accepted refl h).1

pub recheck_holds : (t : Tables) (now : ℕ) (plan : RecheckPlan) (checked : Checked) → is_accepted (step t (calls.Own now (tasks.EndRecheck plan checked))).reply ≡ true → t.recheck ≡ Some plan
recheck_holds t now plan checked h =
    holds same_recheck same-recheck t.recheck plan (open_number (λ held. held.plan) t.recheck) (if_found (still_owed t plan) (recheck_void t (risen t now)) (recheck_ended t (risen t now) checked))
    (running t (calls.Own now (tasks.EndRecheck plan checked)) is_accepted refl h).1

mending_holds : (t : Tables) (time kind : ℕ) (opened : Option RepairPlan) (outcome : RepairOutcome) → is_accepted (end_mending t time kind opened outcome).reply ≡ true → opened ≡ Some (plan_of outcome)
mending_holds t time kind opened outcome h =
    holds same_repair same-repair opened (plan_of outcome) (open_number (λ plan. plan.plan) opened) (end_mending_at t time kind outcome (segment_at t.segments (plan_of outcome).segment.0)) h

pub repair_holds : (t : Tables) (now : ℕ) (outcome : RepairOutcome) → is_accepted (step t (calls.Own now (tasks.EndRepair outcome))).reply ≡ true → t.repair ≡ Some (plan_of outcome)
repair_holds t now outcome h = mending_holds t (risen t now) 11 t.repair outcome (running t (calls.Own now (tasks.EndRepair outcome)) is_accepted refl h).1

pub exit_holds : (t : Tables) (now : ℕ) (outcome : RepairOutcome) → is_accepted (step t (calls.Own now (tasks.EndExit outcome))).reply ≡ true → open_move t ≡ Some (plan_of outcome)
exit_holds t now outcome h = mending_holds t (risen t now) 14 (open_move t) outcome (running t (calls.Own now (tasks.EndExit outcome)) is_accepted refl h).1
