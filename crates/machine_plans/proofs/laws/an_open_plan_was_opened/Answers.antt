use Rattle.machine_step.specs.Tables.{Tables}
use Rattle.machine_plans.specs.Opened.{opened_audit, opened_recheck, opened_repair, opened_exit}
use Rattle.machine_plans.proofs.Trace.{was_opened}
use Rattle.machine_plans.proofs.Openings.{opens_audit, opens_recheck, opens_repair, opens_exit}
use Rattle.std.proofs.Common.{refl}
use Rattle.machine_plans.proofs.laws.an_open_plan_was_opened.Goals as goal

pub returns : goal.returns
returns c = record {
  audit = was_opened (λ (x : Tables). x.audit) opened_audit (λ x rows stopped. refl) opens_audit;
  recheck = was_opened (λ (x : Tables). x.recheck) opened_recheck (λ x rows stopped. refl) opens_recheck;
  repair = was_opened (λ (x : Tables). x.repair) opened_repair (λ x rows stopped. refl) opens_repair;
  exit = was_opened (λ (x : Tables). x.exit) opened_exit (λ x rows stopped. refl) opens_exit;
}
