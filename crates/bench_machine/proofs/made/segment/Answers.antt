use Rattle.segment_core.proofs.Offers.{offer_by_index}
use Rattle.bench_machine.proofs.made.segment.Goals as goal

pub invariant_of-result : goal.invariant_of-result
invariant_of-result c = rw c.of.ensures (offer_by_index c.if-id-eq0.count c.in_ok-pieces.pieces.items c.in_ok-pieces.ensures)
