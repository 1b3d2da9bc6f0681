use Rattle.gather.proofs.PartLemmas.{can_gather}
use Rattle.trial_gather.proofs.gathers.all_ready.Goals as goal

pub block_on-requires : goal.block_on-requires
block_on-requires g c = can_gather g.F.Future.can_poll c.args.parts.items c.in-Ok.whole.inner c.requires c.in-Ok.ensures.ok
