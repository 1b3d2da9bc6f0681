use Rattle.std.proofs.Common.{◌≡◌, ℕ, ◌-◌, option_copied, sym, ◌∙◌, arith}
use Rattle.rows.proofs.Items.{copied_at}
use Rattle.node_registry.specs.Registry.{node_at}
use Rattle.node_registry.proofs.Numbered.{none_below, at_place, own_found}
use Rattle.node_registry.proofs.table.NodeTable.get.Goals as goal

pub returns-then-id-eq0-clause-node : goal.returns-then-id-eq0-clause-node
returns-then-id-eq0-clause-node c = sym (none_below c.args.self.now.nodes 1 c.args.id.0 c.nodes-nodes.ensures.numbered (omega arith))

pub returns : goal.returns
returns c =
    let nodes = c.args.self.now.nodes in
    let place : ℕ = c.args.id.0 - 1 in
    let copied : option_copied c.get.result ≡ node_at nodes c.args.id =
    copied_at c.nodes-nodes.result.now place c.get.result c.get.ensures.lookup
    ∙ rw c.nodes-nodes.ensures.nodes (sym (at_place nodes 1 place c.args.id.0 c.nodes-nodes.ensures.numbered (omega arith))) in
    record { node = copied; own = own_found nodes c.args.id c.get.result copied }
