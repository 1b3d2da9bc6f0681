use Rattle.trial_lines.proofs.Rising.{rise_more}
use Rattle.trial_lines.proofs.pieces.is_by_index.Goals as goal

pub loop-i-preserved : goal.loop-i-preserved
loop-i-preserved c = rise_more c.args.pieces.now c.loop-i.i c.loop-i.invariant (c.is_above.ensures c.if-not-is_above.false)
