use Rattle.node_wire.proofs.AnswerLemmas.{heard_short}
use Rattle.gather.proofs.tokio_nodes.TokioNodesNodes.fetch.Goals as goal

pub returns-clause-within : goal.returns-clause-within
returns-clause-within g c = heard_short c.args.ask.now c.answer.result c.answer.ensures.heard
