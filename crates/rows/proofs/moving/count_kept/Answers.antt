use Rattle.std.proofs.Common.{◌<◌, arith}
use Rattle.rows.proofs.OrderLemmas.{below_last}
use Rattle.rows.proofs.moving.count_kept.Goals as goal

pub returns-then-rank-k-clause-below : goal.returns-then-rank-k-clause-below
returns-then-rank-k-clause-below g c _ =
    let lt : g.R.Ranked.rank c.index-as_slice.result < c.args.k = rw c.rank.ensures at c.if-rank-k.true in
    below_last g.R.Ranked.rank c.args.k c.args.block.now.rows c.index-as_slice.result 511 (omega (arith, c.requires.full))
    (rw (← c.as_slice.ensures.rows) c.index-as_slice.is) c.requires.rising lt
