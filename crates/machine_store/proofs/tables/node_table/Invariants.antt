use Rattle.std.proofs.Common.{◌≡◌, ◌++◌}
use Rattle.std.specs.Vec.Iter.{into_iter_items}
use Rattle.machine_store.proofs.tables.node_table.Given as goal

-- the nodes so far are those that were taken, and what is left comes behind them
abbrev pub invariant-loop-node : goal.invariant-loop-node
invariant-loop-node l = record {
  nodes : l.table.nodes ≡ l.yielded;
  left : l.yielded ++ into_iter_items l.node-iterator ≡ l.fn.nodes.items;
}
