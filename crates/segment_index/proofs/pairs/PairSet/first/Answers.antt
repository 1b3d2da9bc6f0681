use Rattle.segment_index.proofs.PairLemmas.{first_is}
use Rattle.segment_index.proofs.pairs.PairSet.first.Goals as goal

pub returns : goal.returns
returns c = rw (c.copied.ensures, c.first.ensures.row, ← c.self.view_is) (first_is c.self.inside.pairs.rows c.first.ensures.rising c.self.invariant)
