use Rattle.std.proofs.Common.{◌≡◌, List, not, ◌&&◌, ap, ◌∙◌}
use Rattle.std.specs.Prelude.{◌==◌}
use Rattle.sat_base.specs.declared.ids.NodeId.{NodeId}
use Rattle.segment_index.specs.Indexed.{Indexed}
use Rattle.segment_index.specs.Keys.{nodes_of}
use Rattle.segment_index.specs.Segments.{is_gone}
use Rattle.segment_index.proofs.Nodes.{counted_now, fewer, gone_less}
use Rattle.segment_index.proofs.index.SegmentIndex.count_lost.Goals as goal

pub returns-clause-lost : goal.returns-clause-lost
returns-clause-lost c other =
    let node = c.args.node in
    let was = c.args.self.now in
    let gone = ap (λ (t : Indexed). is_gone t.gone other) c.self.view_is ∙ c.in_ok-count_pieces.ensures.gone other in
    let pending = ap (λ (t : Indexed). t.pending) (c.self.view_is ∙ c.in_ok-count_pieces.ensures.same) in
    let left : is_gone (nodes_of c.remove.new.self.rows) other ≡ (not (node.0 == other.0) && is_gone was.pending other) =
    rw (c.remove.ensures.rows, c.from.ensures) (gone_less c.self.inside.pending.rows node.0 other ∙ ap (λ (p : List NodeId). not (node.0 == other.0) && is_gone p other) pending) in
    counted_now node other was.gone was.pending (is_gone (nodes_of c.self.inside.counted.rows) other) (is_gone (nodes_of c.remove.new.self.rows) other) c.requires gone left

pub returns-clause-less : goal.returns-clause-less
returns-clause-less c =
    let pending = ap (λ (t : Indexed). t.pending) (c.self.view_is ∙ c.in_ok-count_pieces.ensures.same) in
    rw (c.remove.ensures.rows, c.from.ensures, ← pending) (fewer c.self.inside.pending.rows c.args.node (rw pending c.requires))
