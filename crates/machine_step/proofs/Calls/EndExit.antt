-- What the end of a move changes fits.
use Rattle.std.proofs.Common.{◌≡◌, ℕ, ◌<◌, ◌≤◌, ◌^◌, true, Option, Some, None, refl, ap, subst, ◌∙◌, inr}
use Rattle.std.specs.Prelude.{◌==◌, option_map}
use Rattle.segment_core.specs.Record.{SegmentRecord}
use Rattle.repair_core.specs.declared.plan.RepairPlan.{RepairPlan}
use Rattle.repair_core.specs.declared.plan.ExitPlan.{ExitPlan}
use Rattle.repair_core.specs.declared.outcome.RepairOutcome.{RepairOutcome}
use Rattle.machine_step.specs.Tables.{Tables, segment_at}
use Rattle.machine_step.specs.Step.{IsMendedBy}
use Rattle.machine_step.specs.Mending.{plan_of}
use Rattle.machine_step.specs.Calls.EndExit.{move_of, open_move, end_exit}
use Rattle.machine_step.specs.Bounds.{IsValid}
use Rattle.machine_step.proofs.Fits.{After}
use Rattle.machine_step.proofs.MendFits.{CanMend, exit_can, fit_end_mending}
use Rattle.sat_base.specs.declared.kinds.TheConstants as kinds

module _ (t : Tables) (v : IsValid t) (time : ℕ) (le : t.marks.time ≤ time) (lt : time < 2 ^ 36) where
  pub fit_end_exit : (outcome : RepairOutcome) → IsMendedBy t.setup outcome → After t (end_exit t time outcome)
  fit_end_exit outcome scheme = fit_end_mending t v time le lt kinds.EXIT_PLAN (inr (inr (inr refl))) (open_move t) outcome scheme (λ found holds at version. go t.exit refl holds found at version)
    where
      go : (exit : Option ExitPlan) → t.exit ≡ exit → option_map move_of exit ≡ Some (plan_of outcome) → (found : SegmentRecord) → segment_at t.segments (plan_of outcome).segment.0 ≡ Some found → (found.version == (plan_of outcome).version) ≡ true → CanMend t (plan_of outcome) found
      go None is holds found at version = cc
      go (Some exit) is holds found at version =
          let same : exit.plan ≡ plan_of outcome = cc in
          subst (λ (plan : RepairPlan). CanMend t plan found) same
          (exit_can t v exit found is (ap (λ (plan : RepairPlan). segment_at t.segments plan.segment.0) same ∙ at) (ap (λ (plan : RepairPlan). found.version == plan.version) same ∙ version))
