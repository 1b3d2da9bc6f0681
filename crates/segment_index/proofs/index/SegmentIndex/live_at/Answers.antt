use Rattle.std.proofs.Common.{ℕ, List, sym, ap, ◌∙◌}
use Rattle.std.specs.Prelude.{slice_get}
use Rattle.segment_index.specs.declared.live.LiveId.{LiveId}
use Rattle.segment_index.specs.Segments.{segment_at}
use Rattle.segment_index.proofs.Asked.{live_some, live_none}
use Rattle.segment_index.proofs.index.SegmentIndex.live_at.Goals as goal

pub returns-in-Some : goal.returns-in-Some
returns-in-Some c =
    rw (← c.self.view_is)
    (c.get.ensures ∙ ap (λ (id : ℕ). segment_at c.self.inside.segments.rows id) c.from.ensures
    ∙ live_some c.self.inside.segments.rows c.self.invariant.rising c.args.place c.in-Some.live.now
    (ap (λ (ids : List LiveId). slice_get ids c.args.place) (sym c.self.invariant.live) ∙ sym c.in-Some.ensures.row))

pub returns-in-None : goal.returns-in-None
returns-in-None c =
    rw (← c.self.view_is)
    (live_none c.self.inside.segments.rows c.self.invariant.rising c.args.place
    (ap (λ (ids : List LiveId). slice_get ids c.args.place) (sym c.self.invariant.live) ∙ sym c.in-None.ensures.row))
