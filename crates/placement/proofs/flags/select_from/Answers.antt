use Rattle.std.proofs.Common.{arith}
use Rattle.placement.proofs.Ranks.{rank_more_yes, rank_more_no, rank_past}
use Rattle.placement.proofs.flags.select_from.Goals as goal
use Rattle.placement.proofs.flags.select_from.Goals.{then-flags-at+else-left-eq0, else-flags-at}

pub loop-at-preserved : goal.loop-at-preserved
loop-at-preserved c =
    let kept = c.loop-at.invariant in
    elim c.if-flags-at.branch [
      | then-flags-at+else-left-eq0 w ↦ let more = rank_more_yes c.loop-at.at c.args.flags.now w.if-flags-at.true in omega (arith, w.left-is, w.if-left-eq0.false)
      | else-flags-at w ↦ let more = rank_more_no c.loop-at.at c.args.flags.now w.if-flags-at.false in omega (arith, w.left-is)
    ]

pub returns-clause-set : goal.returns-clause-set
returns-clause-set c = let all = rank_past c.loop-at.at c.args.flags.now (omega arith) in absurd (omega arith)

pub returns-clause-before : goal.returns-clause-before
returns-clause-before c = let all = rank_past c.loop-at.at c.args.flags.now (omega arith) in absurd (omega arith)
