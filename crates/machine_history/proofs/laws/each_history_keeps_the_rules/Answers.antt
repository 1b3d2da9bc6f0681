use Rattle.machine_history.proofs.HistoryLemmas.{valid_law}
use Rattle.machine_history.proofs.laws.each_history_keeps_the_rules.Goals as goal

pub returns : goal.returns
returns c = valid_law
