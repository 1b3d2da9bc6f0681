use Rattle.std.proofs.Common.{◌<◌, ◌^◌, arith}
use Rattle.segment_index.proofs.PairLemmas.{has-remove, within-remove}
use Rattle.segment_index.proofs.pairs.PairSet.remove.Goals as goal

pub invariant_of-self : goal.invariant_of-self
invariant_of-self c = rw c.remove.ensures.rows (within-remove c.self.inside.pairs.rows c.rank.result c.self.invariant)

pub returns-clause-pairs : goal.returns-clause-pairs
returns-clause-pairs c other =
    let low : c.args.pair.low < 2 ^ 64 = omega arith in
    rw (c.remove.ensures.rows, c.rank.ensures, ← c.self.view_is) (has-remove c.self.inside.pairs.rows c.args.pair other c.self.invariant low)
