use Rattle.order_uses.proofs.CallLemmas.{offered, settled_all, within_all}
use Rattle.order_uses.proofs.laws.uses_stay_within.Goals as goal

pub returns-clause-within : goal.returns-clause-within
returns-clause-within c = within_all

pub returns-clause-settled : goal.returns-clause-settled
returns-clause-settled c = settled_all

pub returns-clause-offered : goal.returns-clause-offered
returns-clause-offered c = offered
