use Rattle.std.proofs.Common.{◌≡◌}
use Rattle.bench_coding.proofs.decoding.decode_by_columns.Given as goal

abbrev pub invariant-loop : goal.invariant-loop
invariant-loop l = l.scratch.points ≡ l.initial.scratch.points
