use Rattle.gather.proofs.CountLemmas.{counts_one}
use Rattle.gather.proofs.RoundLemmas.{one_heard, one_long}
use Rattle.gather.proofs.tokio_nodes.TokioNodes.answer.Goals as goal

pub only-requires : goal.only-requires
only-requires g c = one_long c.args.ask.now c.in-Ok.answers.items c.in-Ok.ensures.ok

pub returns-in-Ok-clause-heard : goal.returns-in-Ok-clause-heard
returns-in-Ok-clause-heard g c = one_heard c.args.ask.now c.in-Ok.answers.items c.only.result c.only.ensures c.in-Ok.ensures.ok

pub returns-in-Ok-clause-count : goal.returns-in-Ok-clause-count
returns-in-Ok-clause-count g c = counts_one c.in-Ok.answers.items c.only.result _ _ c.only.ensures c.in-Ok.ensures.up c.in-Ok.ensures.count
