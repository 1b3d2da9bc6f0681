use Rattle.askable_plans.proofs.Repairs.{repair_askable}
use Rattle.askable_plans.proofs.laws.a_planned_repair_can_be_asked.Goals as goal

pub returns : goal.returns
returns c = repair_askable
