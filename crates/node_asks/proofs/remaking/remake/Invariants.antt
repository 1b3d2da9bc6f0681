use Rattle.std.proofs.Common.{◌≡◌, ◌-◌, ◌^◌, ◌≤◌}
use Rattle.node_asks.proofs.RemakeLemmas.{IsAsking}
use Rattle.node_asks.proofs.remaking.remake.Given as goal

-- so far windows have led from the start
abbrev pub invariant-loop-asking : goal.invariant-loop-asking
invariant-loop-asking g l = record {
  asking : IsAsking (g.N.Nodes.held l.fn.nodes) (g.N.Nodes.asks l.fn.nodes) (g.N.Nodes.asks l.nodes) l.keys l.scheme l.plan l.sources
      (g.N.Nodes.faults l.fn.nodes) (g.N.Nodes.faults l.nodes) l.rebuilder l.left.still.items l.left.gone.items;
  held : g.N.Nodes.held l.nodes ≡ g.N.Nodes.held l.fn.nodes;
  counts : g.N.Nodes.faults l.fn.nodes ≤ g.N.Nodes.faults l.nodes;
  last : g.N.Nodes.faults l.fn.nodes ≡ 2 ^ 64 - 1 → g.N.Nodes.faults l.nodes ≡ 2 ^ 64 - 1;
  points : l.scratch.points ≡ l.fn.scratch.points;
}

abbrev pub decreases-loop-asking : goal.decreases-loop-asking
decreases-loop-asking g l = l.stripes - l.rebuilder.done
