use Rattle.std.proofs.Common.{◌≡◌, ◌+◌, ◌++◌, ◌∷◌, length, ap, sym, subst, arith}
use Rattle.std.specs.Vec.Iter.{into_iter_items}
use Rattle.node_registry.specs.Registry.{IsNumbered}
use Rattle.machine_store.proofs.OpeningLemmas.{counts_last}
use Rattle.machine_store.proofs.tables.node_table.Goals as goal

pub add-requires : goal.add-requires
add-requires c =
    let next : into_iter_items c.loop-node.node-iterator ≡ c.in-Some.node ∷ into_iter_items c.next.new.self = c.in-Some.ensures.steps.0 in
    let all : c.loop-node.yielded ++ c.in-Some.node ∷ into_iter_items c.next.new.self ≡ c.args.nodes.items = rw (← next) c.loop-node.invariant.left in
    let at : c.in-Some.node.id.0 ≡ 1 + length c.loop-node.yielded = counts_last c.loop-node.yielded c.in-Some.node (into_iter_items c.next.new.self) 1 (subst IsNumbered (sym all) c.requires.numbered) in
    let many : length c.loop-node.table.nodes ≡ length c.loop-node.yielded = ap length c.loop-node.invariant.nodes in
    omega (arith, at, many)
