use Rattle.segment_core.proofs.Offers.{offer_by_index}
use Rattle.trial_tables.proofs.sample.pending.Goals as goal

pub invariant_of-result : goal.invariant_of-result
invariant_of-result c = rw c.of.ensures (offer_by_index c.args.n c.in_ok-places.places.items c.in_ok-places.ensures)
