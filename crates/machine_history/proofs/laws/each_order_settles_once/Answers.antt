use Rattle.machine_history.proofs.OrderLemmas.{settle_once}
use Rattle.machine_history.proofs.laws.each_order_settles_once.Goals as goal

pub returns : goal.returns
returns c = settle_once
