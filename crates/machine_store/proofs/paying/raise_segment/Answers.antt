use Rattle.std.proofs.Common.{List, ◌^◌, ◌<◌, length, sym, ap, subst, ◌∙◌, arith}
use Rattle.rows.specs.Rows.{without}
use Rattle.segment_core.specs.Record.{SegmentRecord, segment_rank}
use Rattle.machine_step.specs.Tables.{setup_of}
use Rattle.pay_tables.specs.InStep.{IsInStep}
use Rattle.machine_store.proofs.PaidLemmas.{new_room, fewer_without}
use Rattle.machine_store.proofs.paying.raise_segment.Goals as goal

pub raise-requires-clause-room : goal.raise-requires-clause-room
raise-requires-clause-room c =
    let same = c.as_slice.ensures ∙ ap (λ (s : SegmentRecord). s.pieces) c.segment.view_is in
    let few : length (without segment_rank c.args.segments.now.rows c.args.segment.now.id.0) < 2 ^ 64 = omega (arith, fewer_without c.args.segments.now.rows c.args.segment.now.id.0, c.len-rows.ensures.rows) in
    new_room (setup_of c.args.settings.now) c.args.pay.now c.args.segment.now c.as_slice.result.now c.live_bytes-bytes.result same c.live_bytes-bytes.ensures
    (c.stored_bytes_have_room.ensures (setup_of c.args.settings.now) (without segment_rank c.args.segments.now.rows c.args.segment.now.id.0) c.requires.step.settled c.args.pay.now c.args.segment.now c.requires.setup c.requires.step.step few c.requires.short)

pub returns-clause-step : goal.returns-clause-step
returns-clause-step c settled step =
    let same = c.as_slice.ensures ∙ ap (λ (s : SegmentRecord). s.pieces) c.segment.view_is in
    subst (λ (rows : List SegmentRecord). IsInStep (setup_of c.args.settings.now) rows settled c.raise.new.self)
    (c.a_segment_in_place_of_another.ensures.rows c.args.segments.now.rows c.args.segment.now c.len-rows.ensures.rising)
    (c.raise.ensures.keeps (setup_of c.args.settings.now) (without segment_rank c.args.segments.now.rows c.args.segment.now.id.0) settled c.args.segment.now (sym same) (sym c.live_bytes-bytes.ensures) c.requires.short
    (c.a_segment_in_place_of_another.ensures.gone c.args.segments.now.rows c.args.segment.now.id.0) step)
