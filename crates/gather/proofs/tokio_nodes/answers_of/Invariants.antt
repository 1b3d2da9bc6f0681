use Rattle.std.proofs.Common.{◌≡◌, ◌++◌, length, vec_len, vec_capacity, count_by}
use Rattle.std.specs.List.{AllZip}
use Rattle.std.specs.Vec.Iter.{into_iter_items}
use Rattle.sat_base.specs.Nodes.{is_out_of_memory}
use Rattle.gather.specs.Rounds.{TakenFrom}
use Rattle.gather.proofs.tokio_nodes.answers_of.Given as goal

abbrev pub invariant-loop-one : goal.invariant-loop-one
invariant-loop-one l = record {
  each : AllZip TakenFrom l.yielded l.answers.items;
  none : count_by is_out_of_memory l.answers.items ≡ 0;
  split : l.yielded ++ into_iter_items l.one-iterator ≡ l.fn.heard.items;
  made : vec_len l.answers ≡ length l.yielded;
  room : vec_capacity l.answers ≡ length l.fn.heard.items;
}
