use Rattle.pay_tables.proofs.Steps.{rows-stay}
use Rattle.pay_tables.proofs.laws.rows_that_stay_stay_in_step.Goals as goal

pub returns : goal.returns
returns c setup segments settled old new keeps step = rows-stay setup segments settled old new keeps step
