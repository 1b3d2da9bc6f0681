use Rattle.std.proofs.Common.{ℕ, None, Some, ap, ◌∙◌, subst}
use Rattle.segment_index.specs.Pairs.{IsNext}
use Rattle.segment_index.specs.Segments.{segment_at}
use Rattle.segment_index.proofs.Asked.{next_some, next_none}
use Rattle.segment_index.proofs.index.SegmentIndex.next_at.Goals as goal

pub returns-in-Some : goal.returns-in-Some
returns-in-Some c =
    let pairs = c.self.inside.by_node.rows in
    let is = subst (λ (n : ℕ). IsNext pairs n c.args.above.0 (Some c.in-Some.id)) c.from.ensures c.in-Some.ensures in
    rw (← c.self.view_is)
    (c.get.ensures ∙ ap (λ (id : ℕ). segment_at c.self.inside.segments.rows id) c.from-in-Some.ensures
    ∙ next_some c.self.inside.segments.rows c.self.invariant.rising c.args.node pairs c.self.invariant.by_node c.args.above.0 c.in-Some.id is)

pub returns-in-None : goal.returns-in-None
returns-in-None c =
    let pairs = c.self.inside.by_node.rows in
    let is = subst (λ (n : ℕ). IsNext pairs n c.args.above.0 None) c.from.ensures c.in-None.ensures in
    rw (← c.self.view_is) (next_none c.self.inside.segments.rows c.self.invariant.rising c.args.node pairs c.self.invariant.by_node c.args.above.0 is)
