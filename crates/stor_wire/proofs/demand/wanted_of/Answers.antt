use Rattle.stor_wire.proofs.demand.wanted_of.Goals as goal

pub returns-in_default : goal.returns-in_default
returns-in_default c = λ wanted x. c.in_default.ensures.none wanted.segment wanted.index x.named.path
