use Rattle.gather.proofs.RoundLemmas.{fetches_can, fetches_come}
use Rattle.gather.proofs.round.fetch_round.Goals as goal

pub all_heard-requires : goal.all_heard-requires
all_heard-requires g c = fetches_can c.args.asked.now c.in_ok-parts.parts.items c.in_ok-parts.ensures

pub returns : goal.returns
returns g c = fetches_come c.args.asked.now c.in_ok-parts.parts.items c.in_ok-heard.heard.items c.in_ok-parts.ensures c.in_ok-heard.ensures
