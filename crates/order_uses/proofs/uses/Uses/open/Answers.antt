use Rattle.order_uses.proofs.KeepLemmas.{kept_opened}
use Rattle.order_uses.proofs.uses.Uses.open.Goals as goal

pub invariant_of-result : goal.invariant_of-result
invariant_of-result g c = kept_opened _ _ c.args.keeper c.args.key c.of-first.ensures c.in-Ok.ensures.key c.in-Ok.ensures.ok
