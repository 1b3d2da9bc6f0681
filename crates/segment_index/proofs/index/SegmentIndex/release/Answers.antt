use Rattle.std.proofs.Common.{◌≡◌, ◌<◌, ◌^◌, sym, subst, ap, ◌∙◌, arith}
use Rattle.segment_core.specs.Record.{SegmentRecord, segment_rank}
use Rattle.segment_index.specs.Indexed.{Indexed, IsPlaced, has_room}
use Rattle.segment_index.proofs.Moves.{rank_low}
use Rattle.segment_index.proofs.PairLemmas.{no_slot_more}
use Rattle.segment_index.proofs.index.SegmentIndex.release.Goals as goal

pub returns-in-Some-clause-others : goal.returns-in-Some-clause-others
returns-in-Some-clause-others c other apart placed =
    let was = subst (λ (t : Indexed). IsPlaced t other) (sym c.self.view_is) placed in
    let id = c.segment.inside.id.0 in
    let low : id < 2 ^ 64 = omega arith in
    let same : id ≡ c.args.segment.now.id.0 = ap (λ (s : SegmentRecord). s.id.0) c.segment.view_is in
    record {
      low = was.low;
      row = c.release.ensures.others other.id.0 was.row (λ e. apart (e ∙ c.from.ensures ∙ same));
      live = was.live;
      nodes = λ node lies. c.release_pieces.ensures.room node other.id.0 was.low (λ e. apart (e ∙ same)) (was.nodes node lies);
      need = λ healthy key. c.release-in-Some.ensures.others _ (was.need healthy key) (λ e.
          apart (rank_low (record { high = healthy; low = other.id.0 }) (record { high = c.in-Some.high; low = id }) was.low low e ∙ same));
    }

pub returns-in-Some-clause-fewer : goal.returns-in-Some-clause-fewer
returns-in-Some-clause-fewer c =
    record {
      segments = λ id none. no_slot_more segment_rank c.self.inside.segments c.release.new.self c.from.result c.release.ensures.released c.release.ensures.kept id (ap (λ (t : Indexed). has_room t.room.segments id) c.self.view_is ∙ none);
      by_node = λ rank none. c.release_pieces.ensures.fewer rank (ap (λ (t : Indexed). has_room t.room.by_node rank) c.self.view_is ∙ none);
      by_need = λ rank none. c.release-in-Some.ensures.fewer rank (ap (λ (t : Indexed). has_room t.room.by_need rank) c.self.view_is ∙ none);
    }

pub returns-in_default-clause-fewer : goal.returns-in_default-clause-fewer
returns-in_default-clause-fewer c =
    record {
      segments = λ id none. no_slot_more segment_rank c.self.inside.segments c.release.new.self c.from.result c.release.ensures.released c.release.ensures.kept id (ap (λ (t : Indexed). has_room t.room.segments id) c.self.view_is ∙ none);
      by_node = λ rank none. c.release_pieces.ensures.fewer rank (ap (λ (t : Indexed). has_room t.room.by_node rank) c.self.view_is ∙ none);
      by_need = λ rank none. ap (λ (t : Indexed). has_room t.room.by_need rank) c.self.view_is ∙ none;
    }
