-- The open plans, as they are kept.
use Rattle.std.specs.Prelude.{ℕ}
use Rattle.sat_base.specs.declared.kinds.TheConstants as kinds
use Rattle.machine_step.specs.Tables.{closed}
use Rattle.machine_store.specs.declared.plans.Plans.{Plans}

-- the plans once that of a kind is closed
abbrev pub closed_in : Plans → ℕ → Plans
closed_in plans kind = record {
  audit = closed kinds.AUDIT_PLAN kind plans.audit;
  recheck = closed kinds.RECHECK_PLAN kind plans.recheck;
  repair = closed kinds.REPAIR_PLAN kind plans.repair;
  exit = closed kinds.EXIT_PLAN kind plans.exit;
}
