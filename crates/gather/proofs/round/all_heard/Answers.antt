use Rattle.gather.specs.Rounds.{CanHear, MayHear}
use Rattle.gather.proofs.PartLemmas.{can_gather, gathers_of, if_ok_so}
use Rattle.gather.proofs.round.all_heard.Goals as goal

pub block_on-requires : goal.block_on-requires
block_on-requires g c = can_gather CanHear c.args.parts.items c.in-Ok.whole.inner c.requires c.in-Ok.ensures.ok

pub returns-in-Ok : goal.returns-in-Ok
returns-in-Ok g c = if_ok_so _ _ c.block_on.result (λ heard. gathers_of MayHear c.args.parts.items c.in-Ok.whole.inner heard.items c.in-Ok.ensures.ok) c.block_on.ensures
