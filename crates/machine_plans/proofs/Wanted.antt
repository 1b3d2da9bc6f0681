-- A planned repair has as many targets as are wanted and can be had.
use Rattle.std.proofs.Common.{◌≡◌, ℕ, ◌-◌, ◌<◌, ◌≤◌, ◌^◌, Bool, true, false, List, length, Option, Some, None, min, refl, subst, ◌∙◌, ap, arith}
use Rattle.std.specs.Prelude.{◌==◌}
use Rattle.std.proofs.lemmas.Bool.Decides.{nat_tests}
use Rattle.segment_core.specs.Record.{SegmentRecord}
use Rattle.placement.specs.Eligible.{subnet_count}
use Rattle.repair_core.specs.declared.plan.RepairPlan.{RepairPlan}
use Rattle.machine_calls.specs.declared.call.Call.TheVariants as calls
use Rattle.machine_calls.specs.declared.task.Task.TheVariants as tasks
use Rattle.machine_calls.specs.declared.refusal.Refusal.TheVariants as refusals
use Rattle.machine_calls.specs.declared.refusal.TableName.TheVariants as names
use Rattle.machine_step.specs.Tables.{Tables}
use Rattle.machine_step.specs.Outcome.{unless, with_record}
use Rattle.machine_step.specs.Health.{healthy_of}
use Rattle.machine_step.specs.Plans.{has_no_plan}
use Rattle.machine_step.specs.Step.{risen, step}
use Rattle.machine_step.specs.Calls.PlanRepair.{to_repair, terms_beside, targets_for, repair_of, repair_planned, repair_from, plan_repair}
use Rattle.machine_step.specs.Bounds.{IsValid}
use Rattle.machine_step.proofs.Calls.PlanRepair.{targets-number}
use Rattle.machine_plans.specs.Opened.{opened_repair}
use Rattle.machine_plans.specs.Ends.{HasItsTargets}
use Rattle.machine_plans.proofs.Steps.{opened_in}

wanted_case : (t : Tables) (v : IsValid t) (time : ℕ) (words : List ℕ) (plan : RepairPlan) → opened_repair (plan_repair t time words).reply ≡ Some plan → HasItsTargets t words plan
wanted_case t v time words plan h = go (to_repair t) h
  where
    counted : (segment : SegmentRecord) (need : ℕ) → need ≡ min (t.setup.o - length (healthy_of t segment)) (subnet_count (terms_beside t (healthy_of t segment) segment.len words)) → (a b : Bool) → (need == 0) ≡ b
        → opened_repair (unless a (refusals.TableFull names.Numbers) (unless b (refusals.Few 0) (repair_planned t time (repair_of t time segment (healthy_of t segment) (targets_for t (healthy_of t segment) segment.len words need))))).reply ≡ Some plan → HasItsTargets t words plan
    counted segment need is true b some h = absurd cc
    counted segment need is false true some h = absurd cc
    counted segment need is false false some h =
        let same : repair_of t time segment (healthy_of t segment) (targets_for t (healthy_of t segment) segment.len words need) ≡ plan = cc in
        let number : length (targets_for t (healthy_of t segment) segment.len words need) ≡ need
        = targets-number t v segment words need (omega (arith, is)) (omega (arith, is)) in
        subst (λ (p : RepairPlan). HasItsTargets t words p) same (record { number = number ∙ is; some = grind (arith, nat_tests, some, number) })

    go : (found : Option SegmentRecord) → opened_repair (with_record found refusals.NothingToRepair (λ segment. repair_from t time words segment (healthy_of t segment))).reply ≡ Some plan → HasItsTargets t words plan
    go None h = absurd cc
    go (Some segment) h =
        let need = min (t.setup.o - length (healthy_of t segment)) (subnet_count (terms_beside t (healthy_of t segment) segment.len words)) in
        counted segment need refl (has_no_plan t.marks) (need == 0) refl h

pub wanted_targets : (t : Tables) (now : ℕ) (words : List ℕ) (plan : RepairPlan) → IsValid t → opened_repair (step t (calls.Own now (tasks.PlanRepair words))).reply ≡ Some plan → HasItsTargets t words plan
wanted_targets t now words plan v h = wanted_case t v (risen t now) words plan (opened_in t (calls.Own now (tasks.PlanRepair words)) opened_repair plan refl h)
