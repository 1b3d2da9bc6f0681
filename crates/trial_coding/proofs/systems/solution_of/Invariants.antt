use Rattle.std.proofs.Common.{◌≡◌}
use Rattle.trial_coding.proofs.systems.solution_of.Given as goal

abbrev pub invariant-loop-row : goal.invariant-loop-row
invariant-loop-row l = (l.m.rows ≡ 2) × (l.m.cols ≡ 3)

abbrev pub invariant-loop-col : goal.invariant-loop-col
invariant-loop-col l = (l.m.rows ≡ 2) × (l.m.cols ≡ 3)
