use Rattle.std.proofs.Common.{subst}
use Rattle.order_uses.specs.Index.{IsOver}
use Rattle.order_uses.proofs.IndexLemmas.{pruned}
use Rattle.order_uses.proofs.index.prune.Goals as goal

pub loop-i-preserved : goal.loop-i-preserved
loop-i-preserved c = λ waiting indexed.
    let over = subst (IsOver c.args.key.now c.args.moment) c.get.ensures.row (c.can_come.ensures c.if-can_come.false) in
    rw c.remove.ensures.rows (pruned c.args.key.now c.args.rows.now.rows c.args.moment waiting c.loop-i.candidates.rows (c.loop-i.invariant waiting indexed) c.rank-place.result over)
