use Rattle.std.proofs.Common.{◌≡◌, length, List, ◌++◌, ◌∷◌, [], ap, ◌∙◌, arith, length-append}
use Rattle.node_registry.specs.declared.node.Node.{Node}
use Rattle.node_registry.specs.Registry.{Nodes}
use Rattle.node_registry.proofs.Numbered.{counts-pushed}
use Rattle.node_registry.proofs.table.NodeTable.add.Goals as goal

pub invariant_of-self-2 : goal.invariant_of-self-2
invariant_of-self-2 c =
    let kept = c.self.invariant in
    let nodes = c.self.inside.nodes.items in
    let nodes_is : nodes ≡ c.args.self.now.nodes = ap (λ (t : Nodes). t.nodes) c.self.view_is in
    let items : c.push_reserved.new.self.items ≡ nodes ++ c.args.node ∷ [] = c.push_reserved.ensures.items ∙ ap (λ (items : List Node). items ++ c.args.node ∷ []) c.make_room.ensures.items in
    let same : length nodes ≡ length c.args.self.now.nodes = ap length nodes_is in
    let within = kept.within in
    record {
      numbered = rw items (counts-pushed c.args.node nodes 1 kept.numbered (omega arith));
      within = rw items (simp length-append (omega arith));
    }
