use Rattle.machine_history.proofs.RepeatLemmas.{equal_repeats}
use Rattle.machine_history.proofs.laws.an_equal_request_acts_once.Goals as goal

pub returns : goal.returns
returns c = equal_repeats
