use Rattle.node_registry.specs.Reputation.{IsRated}
use Rattle.trial_tables.proofs.reputation.the_sixth_fail_disqualifies.Given as goal

abbrev pub invariant-loop-alpha : goal.invariant-loop-alpha
invariant-loop-alpha g l = IsRated l.node
