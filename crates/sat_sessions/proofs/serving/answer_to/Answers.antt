use Rattle.sat_sessions.proofs.Answering.{answers_as, answers_edge, answers_unread, answers_wordless}
use Rattle.sat_sessions.proofs.serving.answer_to.Goals as goal

pub returns-in-Edge : goal.returns-in-Edge
returns-in-Edge g c = answers_as _ _ _ _ _ _ _ _ _ _ _ c.in-Edge.is c.without_turn.ensures (answers_edge _ c.args.pass c.in-Edge.error _ _ _ c.speak-sent.ensures)

pub returns-in-ReadFault : goal.returns-in-ReadFault
returns-in-ReadFault g c = answers_as _ _ _ _ _ _ _ _ _ _ _ c.in-ReadFault.is c.without_turn-in-ReadFault.ensures (answers_unread _ c.args.pass _)

pub returns-in-WordsFault : goal.returns-in-WordsFault
returns-in-WordsFault g c = answers_as _ _ _ _ _ _ _ _ _ _ _ c.in-WordsFault.is c.without_turn-in-WordsFault.ensures (answers_wordless _ c.args.pass _ _ _ c.speak-sent-in-WordsFault.ensures)
