use Rattle.machine_history.proofs.HistoryLemmas.{closed_law}
use Rattle.machine_history.proofs.laws.closed_months_stay.Goals as goal

pub returns : goal.returns
returns c = closed_law
