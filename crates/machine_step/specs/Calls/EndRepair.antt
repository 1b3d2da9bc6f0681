-- A repair ends.
use Rattle.std.specs.Prelude.{ℕ}
use Rattle.sat_base.specs.declared.kinds.TheConstants as kinds
use Rattle.repair_core.specs.declared.outcome.RepairOutcome.{RepairOutcome}
use Rattle.machine_step.specs.Tables.{Tables}
use Rattle.machine_step.specs.Outcome.{Outcome}
use Rattle.machine_step.specs.Mending.{end_mending}

abbrev pub end_repair : Tables → ℕ → RepairOutcome → Outcome
end_repair t time outcome = end_mending t time kinds.REPAIR_PLAN t.repair outcome
