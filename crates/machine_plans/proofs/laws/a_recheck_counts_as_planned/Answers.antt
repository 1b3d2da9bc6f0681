use Rattle.machine_plans.proofs.Leaving.{recheck_counts}
use Rattle.machine_plans.proofs.laws.a_recheck_counts_as_planned.Goals as goal

pub returns : goal.returns
returns c = recheck_counts
