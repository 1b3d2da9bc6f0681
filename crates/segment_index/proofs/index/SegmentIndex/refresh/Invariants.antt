use Rattle.std.proofs.Common.{◌≡◌, ◌≤◌, ◌||◌, [], length}
use Rattle.sat_base.specs.declared.ids.NodeId.{NodeId}
use Rattle.segment_index.specs.Segments.{is_gone}
use Rattle.segment_index.proofs.index.SegmentIndex.refresh.Given as goal

abbrev pub invariant-loop-first : goal.invariant-loop-first
invariant-loop-first l = record {
  rows : l.self.rows ≡ l.fn.self.rows;
  limits : l.self.limits ≡ l.fn.self.limits;
  lost : (node : NodeId) → (is_gone l.self.gone node || is_gone l.self.pending node) ≡ (is_gone l.fn.self.gone node || is_gone l.fn.self.pending node);
  idle : l.fn.self.pending ≡ [] → l.self ≡ l.fn.self;
  room : l.fn.self.room.lost ≤ l.self.room.lost;
}

abbrev pub decreases-loop-first : goal.decreases-loop-first
decreases-loop-first l = length l.self.pending
