use Rattle.std.proofs.Common.{◌≡◌, ◌≤◌}
use Rattle.trial_coding.proofs.plain.decode_columns.Given as goal

abbrev pub invariant-loop-c : goal.invariant-loop-c
invariant-loop-c g l = l.scratch.points ≡ l.initial.scratch.points

abbrev pub invariant-loop-i : goal.invariant-loop-i
invariant-loop-i g l = l.altered ≤ l.i
