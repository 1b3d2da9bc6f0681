use Rattle.node_asks.proofs.SpreadLemmas.{IsPut}
use Rattle.node_asks.proofs.spreading.spread.Given as goal

-- what became of the targets so far
abbrev pub invariant-loop-i : goal.invariant-loop-i
invariant-loop-i g l =
    IsPut l.keys l.scheme l.plan l.targets l.fresh (record { held = g.N.Nodes.held l.fn.nodes; asks = g.N.Nodes.asks l.fn.nodes; faults = g.N.Nodes.faults l.fn.nodes })
    (record { held = g.N.Nodes.held l.nodes; asks = g.N.Nodes.asks l.nodes; faults = g.N.Nodes.faults l.nodes }) l.i l.kept.items
