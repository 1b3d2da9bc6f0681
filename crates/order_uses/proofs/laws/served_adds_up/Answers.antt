use Rattle.order_uses.proofs.CallLemmas.{served_all}
use Rattle.order_uses.proofs.laws.served_adds_up.Goals as goal

pub returns : goal.returns
returns c = served_all
