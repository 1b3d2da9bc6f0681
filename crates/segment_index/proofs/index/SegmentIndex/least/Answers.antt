use Rattle.std.proofs.Common.{ℕ, ap, ◌∙◌}
use Rattle.segment_index.specs.Keys.{nodes_of}
use Rattle.segment_index.specs.Segments.{segment_at}
use Rattle.segment_index.proofs.Asked.{repair_some, repair_none}
use Rattle.segment_index.proofs.index.SegmentIndex.least.Goals as goal

pub returns-in-Some : goal.returns-in-Some
returns-in-Some c =
    rw (← c.self.view_is)
    (c.get.ensures ∙ ap (λ (id : ℕ). segment_at c.self.inside.segments.rows id) c.from.ensures
    ∙ repair_some c.self.inside.segments.rows c.self.invariant.rising c.self.inside.limits (nodes_of c.self.inside.counted.rows) c.self.inside.by_need.rows c.self.invariant.by_need c.in-Some.pair c.in-Some.ensures)

pub returns-in-None : goal.returns-in-None
returns-in-None c =
    rw (← c.self.view_is)
    (repair_none c.self.inside.segments.rows c.self.invariant.rising c.self.inside.limits (nodes_of c.self.inside.counted.rows) c.self.inside.by_need.rows c.self.invariant.by_need c.in-None.ensures)
