use Rattle.std.proofs.Common.{◌≡◌, List, [], ◌∷◌, ◌++◌, ap, ◌∙◌, append_assoc}
use Rattle.std.specs.Vec.Iter.{into_iter_items}
use Rattle.sat_base.specs.declared.ids.NodeId.{NodeId}
use Rattle.rows.specs.Slots.{with_row}
use Rattle.rows.proofs.RisingLemmas.{with_row-end}
use Rattle.segment_core.specs.Record.{SegmentRecord, segment_rank}
use Rattle.segment_index.specs.Indexed.{Indexed}
use Rattle.segment_index.specs.Segments.{is_gone}
use Rattle.segment_index.proofs.index.SegmentIndex.of.Goals as goal

pub loop-segment-preserved : goal.loop-segment-preserved
loop-segment-preserved c =
    let next : into_iter_items c.loop-segment.segment-iterator ≡ c.in-Some.segment ∷ into_iter_items c.next.new.self = c.in-Some.ensures.steps.0 in
    let all : c.loop-segment.yielded ++ c.in-Some.segment ∷ into_iter_items c.next.new.self ≡ c.args.segments.items = rw (← next) c.loop-segment.invariant.left in
    let placed = c.in_ok-place.ensures.same in
    let put = c.put.ensures.rows in
    record {
      rows = ap (λ (t : Indexed). t.rows) put ∙ ap (λ (t : Indexed). with_row segment_rank t.rows c.in-Some.segment) placed
          ∙ ap (λ (rows : List SegmentRecord). with_row segment_rank rows c.in-Some.segment) c.loop-segment.invariant.rows
          ∙ with_row-end segment_rank c.loop-segment.yielded c.in-Some.segment (into_iter_items c.next.new.self) (rw all c.requires);
      left = append_assoc c.loop-segment.yielded (c.in-Some.segment ∷ []) (into_iter_items c.next.new.self) ∙ all;
      limits = ap (λ (t : Indexed). t.limits) put ∙ ap (λ (t : Indexed). t.limits) placed ∙ c.loop-segment.invariant.limits;
      gone = λ (node : NodeId). ap (λ (t : Indexed). is_gone t.gone node) put ∙ ap (λ (t : Indexed). is_gone t.gone node) placed ∙ c.loop-segment.invariant.gone node;
      pending = ap (λ (t : Indexed). t.pending) put ∙ ap (λ (t : Indexed). t.pending) placed ∙ c.loop-segment.invariant.pending;
    }
