use Rattle.std.proofs.Common.{◌<◌, ◌^◌, arith}
use Rattle.segment_index.proofs.PairLemmas.{has-put, within-put}
use Rattle.segment_index.proofs.pairs.PairSet.put.Goals as goal

pub invariant_of-self : goal.invariant_of-self
invariant_of-self c =
    let low : c.args.pair.low < 2 ^ 64 = omega arith in
    rw c.put.ensures.rows (within-put c.self.inside.pairs.rows c.args.pair c.self.invariant low)

pub returns-clause-pairs : goal.returns-clause-pairs
returns-clause-pairs c other =
    let low : c.args.pair.low < 2 ^ 64 = omega arith in
    rw (c.put.ensures.rows, ← c.self.view_is) (has-put c.self.inside.pairs.rows c.args.pair other c.self.invariant low)
