use Rattle.machine_plans.proofs.Marks.{marks_step}
use Rattle.machine_plans.proofs.laws.an_end_gives_its_outcomes.Goals as goal

pub returns : goal.returns
returns c = marks_step
