use Rattle.std.proofs.Common.{◌∙◌, sym, arith}
use Rattle.machine_store.proofs.NodeLemmas.{with_row-there, with_row-next, there}
use Rattle.machine_store.proofs.steps.put_node.Goals as goal

pub set-requires : goal.set-requires
set-requires c = there c.args.node.id.0 c.args.nodes.now.nodes 1 c.nodes-nodes.ensures.numbered c.requires.low (omega (arith, c.if-node-len.true, c.len.ensures.len))

pub returns-then-node-len-clause-nodes : goal.returns-then-node-len-clause-nodes
returns-then-node-len-clause-nodes c =
    c.set.ensures.nodes ∙ sym (with_row-there c.args.node c.args.nodes.now.nodes 1 c.nodes-nodes.ensures.numbered c.requires.low (omega (arith, c.if-node-len.true, c.len.ensures.len)))

pub returns-else-is_err-clause-nodes : goal.returns-else-is_err-clause-nodes
returns-else-is_err-clause-nodes c =
    grind (
      arith,
      c.add.ensures.nodes,
      c.if-is_err.false,
      c.is_err.ensures.value,
      with_row-next c.args.node c.args.nodes.now.nodes 1 c.nodes-nodes.ensures.numbered (omega (arith, c.if-node-len.false, c.len.ensures.len, c.requires.high)),
    )
