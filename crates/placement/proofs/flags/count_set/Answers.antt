use Rattle.std.proofs.Common.{arith}
use Rattle.placement.proofs.Ranks.{rank_more_yes, rank_more_no, rank-le-length}
use Rattle.placement.proofs.flags.count_set.Goals as goal
use Rattle.placement.proofs.flags.count_set.Goals.{then-flag, else-flag}

pub overflow_add-count : goal.overflow_add-count
overflow_add-count c =
    let kept = c.loop-flag.invariant in
    let lt = c.loop-flag-test.true in
    omega (arith, rank-le-length c.loop-flag.flag-index c.args.flags.now)

pub loop-flag-preserved : goal.loop-flag-preserved
loop-flag-preserved c =
    let kept = c.loop-flag.invariant in
    elim c.if-flag.branch [
      | then-flag w ↦ let more = rank_more_yes c.loop-flag.flag-index c.args.flags.now w.if-flag.true in omega (arith, w.count-is)
      | else-flag w ↦ let more = rank_more_no c.loop-flag.flag-index c.args.flags.now w.if-flag.false in omega (arith, w.count-is)
    ]
