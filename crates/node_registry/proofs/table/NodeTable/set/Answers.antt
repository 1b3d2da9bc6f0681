use Rattle.std.proofs.Common.{◌≡◌, ap, sym, ◌∙◌, arith, slice_set}
use Rattle.rows.proofs.Lengths.{length-replaced}
use Rattle.node_registry.specs.Registry.{Nodes, IsKept, with_node, node_rank}
use Rattle.node_registry.proofs.Numbered.{replaced_at, counts-replaced}
use Rattle.node_registry.proofs.table.NodeTable.set.Goals as goal

pub invariant_of-self : goal.invariant_of-self
invariant_of-self c =
    let kept = c.self.invariant in
    let nodes = c.self.inside.nodes.items in
    let replaced : slice_set nodes c.place-at.result c.args.node ≡ with_node c.args.node nodes = sym (replaced_at c.args.node nodes 1 c.place-at.result kept.numbered (omega arith)) in
    let rest : IsKept (with_node c.args.node nodes) = record {
      numbered = counts-replaced c.args.node nodes 1 kept.numbered;
      within = rw (length-replaced node_rank c.args.node nodes) kept.within;
    } in
    rw replaced rest

pub returns-clause-nodes : goal.returns-clause-nodes
returns-clause-nodes c =
    sym (replaced_at c.args.node c.self.inside.nodes.items 1 c.place-at.result c.self.invariant.numbered (omega arith)) ∙ ap (λ (t : Nodes). with_node c.args.node t.nodes) c.self.view_is
