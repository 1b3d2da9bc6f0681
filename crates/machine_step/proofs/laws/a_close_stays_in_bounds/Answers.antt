use Rattle.machine_step.proofs.BoundLemmas.{are_fit, are_apart_all}
use Rattle.machine_step.proofs.laws.a_close_stays_in_bounds.Goals as goal

pub returns-clause-fit : goal.returns-clause-fit
returns-clause-fit c = are_fit

pub returns-clause-apart : goal.returns-clause-apart
returns-clause-apart c t month v = are_apart_all t v month
