use Rattle.std.proofs.Common.{◌≡◌, ◌++◌}
use Rattle.node_asks.specs.Answers.{shares_in, sharing_in, lacking_in}
use Rattle.node_asks.proofs.remaking.sort.Given as goal

abbrev pub invariant-loop-one : goal.invariant-loop-one
invariant-loop-one l = record {
  shares : l.sorted.shares.items ≡ shares_in l.yielded;
  still : l.sorted.sources.still.items ≡ sharing_in l.yielded;
  gone : l.sorted.sources.gone.items ≡ l.fn.gone.items ++ lacking_in l.yielded;
}
