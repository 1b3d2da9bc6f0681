use Rattle.settlement.proofs.New.{if_absent, if_good}
use Rattle.settlement.proofs.settled.Settled.check.Goals as goal

pub returns-in-Ok-clause-absent : goal.returns-in-Ok-clause-absent
returns-in-Ok-clause-absent c = if_absent c.args.self.now.rows c.args.self.now.cap c.args.node c.args.now c.in-Ok.order c.order_answer.result c.order_answer.ensures.answer

pub returns-in-Ok-clause-good : goal.returns-in-Ok-clause-good
returns-in-Ok-clause-good c = if_good c.args.keys.now c.args.bytes.now c.args.self.now.rows c.args.self.now.cap c.args.node c.args.now c.in-Ok.order c.order_answer.result c.in-Ok.ensures.found c.order_answer.ensures.answer
