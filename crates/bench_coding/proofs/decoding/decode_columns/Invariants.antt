use Rattle.std.proofs.Common.{◌≡◌}
use Rattle.bench_coding.proofs.decoding.decode_columns.Given as goal

abbrev pub invariant-loop-c : goal.invariant-loop-c
invariant-loop-c l = l.scratch.points ≡ l.initial.scratch.points
