use Rattle.segment_index.specs.Keys.{nodes_of}
use Rattle.segment_index.proofs.Kept.{kept-put}
use Rattle.segment_index.proofs.index.SegmentIndex.put.Goals as goal

pub invariant_of-self : goal.invariant_of-self
invariant_of-self c =
    rw c.put.ensures.rows (kept-put c.self.inside.limits (nodes_of c.self.inside.counted.rows) c.self.inside.segments.rows c.self.inside.live.rows c.self.inside.by_node.rows c.self.inside.by_need.rows c.self.invariant c.args.segment
    c.move_live.new.live.rows c.move_pieces.new.by_node.rows c.move_need.new.by_need.rows c.requires.low
    (rw (← c.segment.view_is) c.move_live.ensures.rows)
    (λ node id. rw (← c.live_pieces-2.ensures, ← c.segment.view_is) (c.move_pieces.ensures.pairs node id))
    (λ healthy id. rw (← c.repair_key-new_key.ensures, ← c.segment.view_is) (c.move_need.ensures.pairs healthy id)))
