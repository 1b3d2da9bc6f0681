use Rattle.segment_index.specs.Keys.{nodes_of}
use Rattle.segment_index.proofs.Kept.{kept-remove}
use Rattle.segment_index.proofs.index.SegmentIndex.remove.Goals as goal

pub invariant_of-self : goal.invariant_of-self
invariant_of-self c =
    rw (c.remove.ensures.rows, c.from-2.ensures) (kept-remove c.self.inside.limits (nodes_of c.self.inside.counted.rows) c.self.inside.segments.rows c.self.inside.live.rows c.self.inside.by_node.rows c.self.inside.by_need.rows c.self.invariant c.args.id.0
    c.move_live.new.live.rows c.move_pieces.new.by_node.rows c.move_need.new.by_need.rows
    c.move_live.ensures.rows
    (λ node id. rw c.live_pieces-2.ensures at (c.move_pieces.ensures.pairs node id))
    c.move_need.ensures.pairs)
