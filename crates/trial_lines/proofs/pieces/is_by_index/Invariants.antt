use Rattle.trial_lines.proofs.Rising.{RiseBefore}
use Rattle.trial_lines.proofs.pieces.is_by_index.Given as goal

abbrev pub invariant-loop-i : goal.invariant-loop-i
invariant-loop-i l = RiseBefore l.pieces l.i
