use Rattle.askable_plans.proofs.Audits.{recheck_askable}
use Rattle.askable_plans.proofs.laws.a_planned_recheck_can_be_asked.Goals as goal

pub returns : goal.returns
returns c = recheck_askable
