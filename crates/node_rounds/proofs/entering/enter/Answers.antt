use Rattle.node_rounds.proofs.Making.{names_none}
use Rattle.node_rounds.proofs.entering.enter.Goals as goal

pub returns-in-Done : goal.returns-in-Done
returns-in-Done g c = (c.in-Done.answered.place, c.in-Done.ensures.done, record { items = c.push_reserved.ensures.items; room = c.push_reserved.ensures.capacity })

pub returns-in-TermFull : goal.returns-in-TermFull
returns-in-TermFull g c = (c.in-TermFull.ensures.full.0, c.in-TermFull.ensures.full.1, names_none c.args.places.now)
