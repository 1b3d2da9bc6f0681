use Rattle.machine_step.proofs.PickLemmas.{by-index-pieces}
use Rattle.machine_requests.proofs.begin.pending.Goals as goal

pub invariant_of-result : goal.invariant_of-result
invariant_of-result c = rw (c.of.ensures, c.in_ok-pieces.ensures) (by-index-pieces c.args.ids.now)
