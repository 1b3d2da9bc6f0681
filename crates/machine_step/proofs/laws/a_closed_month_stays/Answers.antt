use Rattle.machine_step.proofs.StepLemmas.{closed_step}
use Rattle.machine_step.proofs.laws.a_closed_month_stays.Goals as goal

pub returns : goal.returns
returns c = closed_step
