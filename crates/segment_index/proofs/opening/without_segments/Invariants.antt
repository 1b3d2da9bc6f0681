use Rattle.std.proofs.Common.{◌≡◌, ◌+◌, ◌≤◌, [], length, take}
use Rattle.sat_base.specs.declared.ids.NodeId.{NodeId}
use Rattle.segment_index.specs.Segments.{is_gone}
use Rattle.segment_index.proofs.opening.without_segments.Given as goal

abbrev pub invariant-loop-node : goal.invariant-loop-node
invariant-loop-node l = record {
  rows : l.index.rows ≡ [];
  limits : l.index.limits ≡ l.fn.limits;
  gone : l.index.gone ≡ [];
  pending : (node : NodeId) → is_gone l.index.pending node ≡ is_gone (take l.node-index l.gone) node;
  room : length l.gone ≤ l.index.room.lost + l.node-index;
}
