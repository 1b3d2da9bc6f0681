use Rattle.segment_core.specs.Places.{IsOffer}
use Rattle.trial_tables.proofs.sample.offer.Given as goal

abbrev pub invariant-loop-index : goal.invariant-loop-index
invariant-loop-index l = IsOffer l.index l.places.items
