use Rattle.machine_plans.proofs.Wanted.{wanted_targets}
use Rattle.machine_plans.proofs.laws.a_planned_repair_has_its_targets.Goals as goal

pub returns : goal.returns
returns c = wanted_targets
