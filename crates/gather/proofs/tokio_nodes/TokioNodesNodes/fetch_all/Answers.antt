use Rattle.gather.proofs.CountLemmas.{counts_last, counts_unanswered}
use Rattle.gather.proofs.RoundLemmas.{fetches_all}
use Rattle.gather.proofs.tokio_nodes.TokioNodesNodes.fetch_all.Goals as goal

pub returns-clause-answers : goal.returns-clause-answers
returns-clause-answers g c = rw c.of.ensures (fetches_all c.args.asked.now c.in_ok-answers.answers.items c.in_ok-answers.ensures.ok)

pub returns-clause-unanswered : goal.returns-clause-unanswered
returns-clause-unanswered g c = rw c.of.ensures (counts_unanswered c.in_ok-answers.answers.items _ _ c.in_ok-answers.ensures.count)

pub returns-clause-last : goal.returns-clause-last
returns-clause-last g c = counts_last _ _ _ c.in_ok-answers.ensures.count
