use Rattle.std.proofs.Common.{◌≡◌, ◌++◌, map, take}
use Rattle.machine_calls.specs.declared.change.RecChange.TheVariants as changes
use Rattle.machine_upkeep.proofs.closing.and_nodes.Given as goal

abbrev pub invariant-loop-node : goal.invariant-loop-node
invariant-loop-node l = l.changes.items ≡ l.fn.changes.items ++ map changes.Node (take l.node-index l.nodes)
