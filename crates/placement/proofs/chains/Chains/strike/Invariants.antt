use Rattle.placement.proofs.ChainLemmas.{IsNext, IsStruckFrom}
use Rattle.placement.proofs.chains.Chains.strike.Given as goal

abbrev pub invariant-loop-left : goal.invariant-loop-left
invariant-loop-left l = record {
  next : IsNext l.self.subnets l.buckets l.subnet l.left;
  vetted : IsStruckFrom l.self.subnets l.subnet l.left l.initial.vetted l.vetted;
  unvetted : IsStruckFrom l.self.subnets l.subnet l.left l.initial.unvetted l.unvetted;
}

abbrev pub decreases-loop-left : goal.decreases-loop-left
decreases-loop-left l = l.left
