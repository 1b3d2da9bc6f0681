use Rattle.std.proofs.Common.{◌≡◌, ◌∷◌, [], ◌++◌, rules}
use Rattle.segment_core.proofs.Offers.{offer_more}
use Rattle.trial_tables.proofs.sample.offer.Goals as goal

pub loop-index-preserved : goal.loop-index-preserved
loop-index-preserved c =
    let items : c.push.new.self.items ≡ c.loop-index.places.items ++ c.place.result ∷ [] = search rules in
    rw items (offer_more c.loop-index.index c.loop-index.places.items c.place.result c.loop-index.invariant c.place.ensures)
