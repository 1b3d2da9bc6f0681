use Rattle.std.proofs.Common.{◌≡◌, ◌+◌}
use Rattle.std.specs.Prelude.{vec_capacity, vec_len}
use Rattle.desk_runs.specs.Gathered.{Rises}
use Rattle.satellite_cli.proofs.serving.numbered.Given as goal

abbrev pub invariant-loop-number : goal.invariant-loop-number
invariant-loop-number l = record {
  count : vec_len l.numbers ≡ l.number;
  room : vec_capacity l.numbers ≡ vec_capacity l.fn.numbers;
  rises : Rises 0 l.numbers.items (l.number + 1);
}
