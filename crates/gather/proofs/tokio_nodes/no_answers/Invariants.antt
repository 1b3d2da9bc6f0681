use Rattle.std.proofs.Common.{◌≡◌, take, length, vec_len, vec_capacity, count_by}
use Rattle.std.specs.List.{AllZip}
use Rattle.sat_base.specs.Nodes.{is_out_of_memory}
use Rattle.node_wire.specs.Answers.{IsHeardFetch}
use Rattle.gather.proofs.tokio_nodes.no_answers.Given as goal

abbrev pub invariant-loop : goal.invariant-loop
invariant-loop l = record {
  made : vec_len l.answers ≡ l.index;
  room : vec_capacity l.answers ≡ length l.asked;
  each : AllZip IsHeardFetch (take l.index l.asked) l.answers.items;
  none : count_by is_out_of_memory l.answers.items ≡ 0;
}
