-- What the end of a repair changes fits.
use Rattle.std.proofs.Common.{ℕ, ◌<◌, ◌≤◌, ◌^◌, refl, inr, inl}
use Rattle.repair_core.specs.declared.outcome.RepairOutcome.{RepairOutcome}
use Rattle.machine_step.specs.Tables.{Tables}
use Rattle.machine_step.specs.Step.{IsMendedBy}
use Rattle.machine_step.specs.Mending.{plan_of}
use Rattle.machine_step.specs.Calls.EndRepair.{end_repair}
use Rattle.machine_step.specs.Bounds.{IsValid}
use Rattle.machine_step.proofs.Fits.{After}
use Rattle.machine_step.proofs.MendFits.{repair_can, fit_end_mending}
use Rattle.sat_base.specs.declared.kinds.TheConstants as kinds

module _ (t : Tables) (v : IsValid t) (time : ℕ) (le : t.marks.time ≤ time) (lt : time < 2 ^ 36) where
  pub fit_end_repair : (outcome : RepairOutcome) → IsMendedBy t.setup outcome → After t (end_repair t time outcome)
  fit_end_repair outcome scheme = fit_end_mending t v time le lt kinds.REPAIR_PLAN (inr (inr (inl refl))) t.repair outcome scheme (λ found holds at version. repair_can t v (plan_of outcome) found holds at version)
