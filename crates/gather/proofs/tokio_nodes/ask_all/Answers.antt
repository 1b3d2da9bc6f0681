use Rattle.gather.proofs.RoundLemmas.{heard_all}
use Rattle.gather.proofs.tokio_nodes.ask_all.Goals as goal

pub returns-in-Ok : goal.returns-in-Ok
returns-in-Ok g c = heard_all c.args.asked.now c.in-Ok.heard.items c.answers_of.result c.in-Ok.ensures c.answers_of.ensures.each c.answers_of.ensures.none
