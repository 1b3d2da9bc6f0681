use Rattle.std.proofs.Common.{◌≡◌, [], ◌++◌}
use Rattle.std.specs.Vec.Iter.{into_iter_items}
use Rattle.sat_base.specs.declared.ids.NodeId.{NodeId}
use Rattle.segment_index.specs.Segments.{is_gone}
use Rattle.segment_index.proofs.index.SegmentIndex.of.Given as goal

-- the segments so far are those that were taken, and what is left comes behind them
abbrev pub invariant-loop-segment : goal.invariant-loop-segment
invariant-loop-segment l = record {
  rows : l.index.rows ≡ l.yielded;
  left : l.yielded ++ into_iter_items l.segment-iterator ≡ l.fn.segments.items;
  limits : l.index.limits ≡ l.fn.limits;
  gone : (node : NodeId) → is_gone l.index.gone node ≡ is_gone l.fn.gone node;
  pending : l.index.pending ≡ [];
}
