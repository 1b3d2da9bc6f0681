use Rattle.machine_plans.proofs.Held.{audit_holds, recheck_holds, repair_holds, exit_holds}
use Rattle.machine_plans.proofs.laws.an_end_holds_the_open_plan.Goals as goal

pub returns : goal.returns
returns c = record { audit = audit_holds; recheck = recheck_holds; repair = repair_holds; exit = exit_holds }
