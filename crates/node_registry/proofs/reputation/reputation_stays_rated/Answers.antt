use Rattle.node_registry.proofs.Rated.{rated-reputation, disqualified-reputation}
use Rattle.node_registry.proofs.reputation.reputation_stays_rated.Goals as goal

pub returns-clause-rated : goal.returns-clause-rated
returns-clause-rated c = rated-reputation

pub returns-clause-disqualified : goal.returns-clause-disqualified
returns-clause-disqualified c = disqualified-reputation
