use Rattle.segment_index.proofs.Nodes.{gone_less}
use Rattle.segment_index.proofs.index.SegmentIndex.keep.Goals as goal

pub returns-clause-pending : goal.returns-clause-pending
returns-clause-pending c other =
    rw (c.remove.ensures.rows, c.from.ensures, ← c.self.view_is) (gone_less c.self.inside.pending.rows c.args.node.0 other)
