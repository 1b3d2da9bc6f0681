use Rattle.node_wire.proofs.HeardLaws.{heard_one, heard_stays, heard_within}
use Rattle.node_wire.proofs.reading.outcomes_stand.Goals as goal

pub returns-clause-one : goal.returns-clause-one
returns-clause-one c = heard_one

pub returns-clause-stays : goal.returns-clause-stays
returns-clause-stays c = heard_stays

pub returns-clause-within : goal.returns-clause-within
returns-clause-within c = heard_within
