use Rattle.std.proofs.Common.{◌≡◌, ◌∷◌, [], ◌++◌, rules}
use Rattle.segment_core.proofs.Offers.{offer_more}
use Rattle.bench_machine.proofs.made.pieces.Goals as goal

pub loop-index-preserved : goal.loop-index-preserved
loop-index-preserved c =
    let items : c.push.new.self.items ≡ c.loop-index.pieces.items ++ c.piece.result ∷ [] = search rules in
    rw items (offer_more c.loop-index.index c.loop-index.pieces.items c.piece.result c.loop-index.invariant c.piece.ensures)
