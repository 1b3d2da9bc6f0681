-- The pieces of a mended segment stand by index.
use Rattle.std.proofs.Common.{◌≡◌, ◌<◌, ◌^◌, true, Option, Some, ap, subst, ◌∙◌, arith}
use Rattle.std.specs.Prelude.{◌==◌}
use Rattle.std.proofs.lemmas.Bool.Decides.{nat_tests}
use Rattle.segment_core.specs.Places.{IsByIndex}
use Rattle.segment_core.specs.Record.{SegmentRecord}
use Rattle.repair_core.specs.declared.outcome.Mended.{Mended}
use Rattle.repair_core.specs.declared.plan.RepairPlan.{RepairPlan}
use Rattle.repair_core.specs.declared.outcome.RepairOutcome.{RepairOutcome}
use Rattle.repair_core.specs.declared.outcome.RepairOutcome.TheVariants as repairs
use Rattle.machine_step.specs.Bounds.{IsValid}
use Rattle.machine_step.specs.Calls.EndExit.{open_move}
use Rattle.machine_step.specs.Mending.{plan_of, mended_pieces}
use Rattle.machine_step.specs.Plans.{same_repair, is_open}
use Rattle.machine_step.specs.Tables.{Tables, segment_at}
use Rattle.machine_step.proofs.GrowthLemmas.{plan-most}
use Rattle.machine_step.proofs.IndexLemmas.{by_index-rising}
use Rattle.machine_step.proofs.MendFits.{well_mended}
use Rattle.machine_step.proofs.MendFound.{IsMendable, mendable_repair, mendable_move}
use Rattle.machine_step.proofs.SameLemmas.{same-repair, open-is}
use Rattle.machine_upkeep.specs.Mended.{CanEnd}

can_end : (t : Tables) (v : IsValid t) (opened : Option RepairPlan) (outcome : RepairOutcome) → ((plan : RepairPlan) → opened ≡ Some plan → IsMendable t opened plan) → CanEnd t opened outcome
can_end t v opened (repairs.Mended mended) mendable = λ is found at version.
    let same : (found.version == mended.plan.version) ≡ true = grind (arith, nat_tests, version) in
    let can = (mendable mended.plan is).can found at same in
    (by_index-rising (mended_pieces mended) (well_mended t v t.marks.time (omega arith) v.bounds.marks.time mended found can).rising, omega (arith, version, can.later, plan-most t.setup t.marks v.rules.marks))
can_end t v opened (repairs.Unmended unmended) mendable = tt

pub can_end_repair : (t : Tables) (v : IsValid t) (outcome : RepairOutcome) → CanEnd t t.repair outcome
can_end_repair t v outcome = can_end t v t.repair outcome (λ plan is. mendable_repair t v plan is)

pub can_end_exit : (t : Tables) (v : IsValid t) (outcome : RepairOutcome) → CanEnd t (open_move t) outcome
can_end_exit t v outcome = can_end t v (open_move t) outcome (λ plan is. mendable_move t v plan is)

-- the plan that is ended is open, and its segment is as it was planned
pub can_mend : (t : Tables) (opened : Option RepairPlan) (outcome : RepairOutcome) (plan : RepairPlan) (mended : Mended) (found : SegmentRecord) → CanEnd t opened outcome → outcome ≡ repairs.Mended mended → plan ≡ plan_of outcome
    → is_open same_repair opened plan ≡ true → segment_at t.segments plan.segment.0 ≡ Some found → found.version ≡ plan.version → IsByIndex (mended_pieces mended) × (found.version < 2 ^ 63)
can_mend t opened outcome plan mended found can is same open_is at version =
    let own : plan ≡ mended.plan = same ∙ ap plan_of is in
    let opened_is : opened ≡ Some mended.plan = open-is same_repair same-repair opened plan open_is ∙ ap (λ (p : RepairPlan). Some p) own in
    subst (CanEnd t opened) is can opened_is found (subst (λ (p : RepairPlan). segment_at t.segments p.segment.0 ≡ Some found) own at) (version ∙ ap (λ (p : RepairPlan). p.version) own)
