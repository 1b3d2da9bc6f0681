use Rattle.machine_history.proofs.HistoryLemmas.{equal_law}
use Rattle.machine_history.proofs.laws.equal_versions_are_equal.Goals as goal

pub returns : goal.returns
returns c = equal_law
