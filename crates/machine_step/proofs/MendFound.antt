-- What the end of a repair or of a move finds: the open plan, and its segment as it was planned.
use Rattle.std.proofs.Common.{◌≡◌, ℕ, ◌≤◌, Bool, true, false, not, Option, Some, None, IfSome, refl, ap, subst, ◌∙◌, arith}
use Rattle.std.proofs.lemmas.Bool.Decides.{nat_tests}
use Rattle.std.specs.Prelude.{if◌then◌else◌, ◌==◌}
use Rattle.std.specs.Option.{option_map}
use Rattle.rows.specs.Rows.{IsRising}
use Rattle.segment_core.specs.Record.{SegmentRecord}
use Rattle.segment_core.specs.Places.{index_of}
use Rattle.repair_core.specs.declared.plan.RepairPlan.{RepairPlan}
use Rattle.repair_core.specs.declared.plan.ExitPlan.{ExitPlan}
use Rattle.repair_core.specs.declared.outcome.RepairOutcome.{RepairOutcome}
use Rattle.machine_calls.specs.declared.refusal.Refusal.TheVariants as refusals
use Rattle.machine_step.specs.Tables.{Tables, segment_at}
use Rattle.machine_step.specs.Outcome.{refused, unless}
use Rattle.machine_step.specs.Plans.{same_repair, is_open, open_number, superseded}
use Rattle.machine_step.specs.Mending.{plan_of, mending_of, end_mending_at, end_mending}
use Rattle.machine_step.specs.Calls.EndExit.{move_of, open_move}
use Rattle.machine_step.specs.PlanRules.{is_none_or, is_sound_repair, is_sound_exit}
use Rattle.machine_step.specs.Bounds.{IsRepairWithin, IsExitWithin, IsValid}
use Rattle.machine_step.proofs.SameLemmas.{same-repair, open-is}
use Rattle.machine_step.proofs.IndexLemmas.{rising-by_index}
use Rattle.machine_step.proofs.MendFits.{CanMend, repair_can, exit_can}

-- an open plan that may be mended where its segment has the planned version, and whose targets stand by index
pub record IsMendable (t : Tables) (opened : Option RepairPlan) (plan : RepairPlan) : Type 0 where
  pub can : (found : SegmentRecord) → segment_at t.segments plan.segment.0 ≡ Some found → (found.version == plan.version) ≡ true → CanMend t plan found
  pub targets : IsRising index_of plan.targets
  pub live : 1 ≤ plan.version

pub mendable_repair : (t : Tables) (v : IsValid t) (plan : RepairPlan) → t.repair ≡ Some plan → IsMendable t t.repair plan
mendable_repair t v plan opened = record {
  can = λ found at version. repair_can t v plan found opened at version;
  targets = rising-by_index plan.targets (subst (λ (o : Option RepairPlan). IfSome o IsRepairWithin) opened v.bounds.repair).targets.by_index;
  live = let sound : is_none_or (is_sound_repair t.setup t.marks t.nodes t.segments) (Some plan) ≡ true = subst (λ (o : Option RepairPlan). is_none_or (is_sound_repair t.setup t.marks t.nodes t.segments) o ≡ true) opened v.rules.repair in grind (arith, nat_tests, sound);
}

pub mendable_move : (t : Tables) (v : IsValid t) (plan : RepairPlan) → open_move t ≡ Some plan → IsMendable t (open_move t) plan
mendable_move t v plan opened = go t.exit refl opened
  where
    go : (exit : Option ExitPlan) → t.exit ≡ exit → option_map move_of exit ≡ Some plan → IsMendable t (open_move t) plan
    go None is holds = absurd cc
    go (Some exit) is holds =
        let same : exit.plan ≡ plan = cc in
        let within : IsExitWithin exit = subst (λ (o : Option ExitPlan). IfSome o IsExitWithin) is v.bounds.exit in
        subst (λ (p : RepairPlan). IsMendable t (open_move t) p) same (record {
          can = λ found at version. exit_can t v exit found is at version;
          targets = rising-by_index exit.plan.targets within.targets.by_index;
          live = let sound : is_none_or (is_sound_exit t.setup t.marks t.nodes t.segments) (Some exit) ≡ true = subst (λ (o : Option ExitPlan). is_none_or (is_sound_exit t.setup t.marks t.nodes t.segments) o ≡ true) is v.rules.exit in grind (arith, nat_tests, sound);
        })

-- ---- how an end comes out

module _ (t : Tables) (time kind : ℕ) (opened : Option RepairPlan) (outcome : RepairOutcome) where
  -- it is refused, superseded, or ends the plan
  pub data MendingEnds : Type 0 where
    not_open : end_mending t time kind opened outcome ≡ refused (refusals.NoPlan (open_number (λ plan. plan.plan) opened)) → MendingEnds
    gone_end : opened ≡ Some (plan_of outcome) → segment_at t.segments (plan_of outcome).segment.0 ≡ None → end_mending t time kind opened outcome ≡ superseded t time kind (plan_of outcome).version 0 → MendingEnds
    superseded_end : opened ≡ Some (plan_of outcome) → (found : SegmentRecord) → segment_at t.segments (plan_of outcome).segment.0 ≡ Some found → (found.version == (plan_of outcome).version) ≡ false
        → end_mending t time kind opened outcome ≡ superseded t time kind (plan_of outcome).version found.version → MendingEnds
    ended : opened ≡ Some (plan_of outcome) → (found : SegmentRecord) → segment_at t.segments (plan_of outcome).segment.0 ≡ Some found → (found.version == (plan_of outcome).version) ≡ true
        → end_mending t time kind opened outcome ≡ mending_of t time kind outcome found → MendingEnds

  pub mending_ends : MendingEnds
  mending_ends = held (is_open same_repair opened (plan_of outcome)) refl
    where
      open_is : is_open same_repair opened (plan_of outcome) ≡ true → opened ≡ Some (plan_of outcome)
      open_is is = open-is same_repair same-repair opened (plan_of outcome) is

      -- where the plan is open, by the segment that is found
      by : is_open same_repair opened (plan_of outcome) ≡ true → (found : Option SegmentRecord) → segment_at t.segments (plan_of outcome).segment.0 ≡ found → end_mending t time kind opened outcome ≡ end_mending_at t time kind outcome found
      by is found at =
          ap (λ (b : Bool). unless (not b) (refusals.NoPlan (open_number (λ plan. plan.plan) opened)) (end_mending_at t time kind outcome (segment_at t.segments (plan_of outcome).segment.0))) is
          ∙ ap (end_mending_at t time kind outcome) at

      version : is_open same_repair opened (plan_of outcome) ≡ true → (found : SegmentRecord) → segment_at t.segments (plan_of outcome).segment.0 ≡ Some found → (b : Bool) → (found.version == (plan_of outcome).version) ≡ b → MendingEnds
      version is found at true same =
          ended (open_is is) found at same
          (by is (Some found) at ∙ ap (λ (b : Bool). if b then mending_of t time kind outcome found else superseded t time kind (plan_of outcome).version found.version) same)
      version is found at false same =
          superseded_end (open_is is) found at same
          (by is (Some found) at ∙ ap (λ (b : Bool). if b then mending_of t time kind outcome found else superseded t time kind (plan_of outcome).version found.version) same)

      there : is_open same_repair opened (plan_of outcome) ≡ true → (found : Option SegmentRecord) → segment_at t.segments (plan_of outcome).segment.0 ≡ found → MendingEnds
      there is None at = gone_end (open_is is) at (by is None at)
      there is (Some found) at = version is found at (found.version == (plan_of outcome).version) refl

      held : (b : Bool) → is_open same_repair opened (plan_of outcome) ≡ b → MendingEnds
      held true is = there is (segment_at t.segments (plan_of outcome).segment.0) refl
      held false is = not_open (ap (λ (b : Bool). unless (not b) (refusals.NoPlan (open_number (λ plan. plan.plan) opened)) (end_mending_at t time kind outcome (segment_at t.segments (plan_of outcome).segment.0))) is)
