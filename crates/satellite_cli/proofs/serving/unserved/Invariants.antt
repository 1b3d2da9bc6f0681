use Rattle.std.proofs.Common.{◌≡◌, []}
use Rattle.std.specs.Prelude.{vec_capacity, vec_len}
use Rattle.sat_term.specs.Workers.{Every}
use Rattle.satellite_cli.proofs.serving.unserved.Given as goal

abbrev pub invariant-loop-lane : goal.invariant-loop-lane
invariant-loop-lane l = record {
  count : vec_len l.lists ≡ l.lane;
  room : vec_capacity l.lists ≡ vec_capacity l.fn.lists;
  empty : Every (λ lane. lane.items ≡ []) l.lists.items;
}
