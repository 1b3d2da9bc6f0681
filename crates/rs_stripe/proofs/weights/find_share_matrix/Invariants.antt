use Rattle.std.proofs.Common.{length}
use Rattle.rs_stripe.proofs.ManyShares.{AreRows}
use Rattle.rs_stripe.proofs.weights.find_share_matrix.Given as goal

abbrev pub invariant-loop-t : goal.invariant-loop-t
invariant-loop-t l = AreRows (length l.divisors) l.indexes l.matrix l.t
