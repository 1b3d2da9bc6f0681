use Rattle.std.proofs.Common.{List, sym, ap, subst, ◌∙◌}
use Rattle.segment_core.specs.Record.{SegmentRecord, segment_rank}
use Rattle.rows.proofs.Lengths.{without_none}
use Rattle.machine_step.specs.Tables.{setup_of}
use Rattle.pay_tables.specs.InStep.{IsInStep}
use Rattle.machine_store.proofs.PaidLemmas.{old_short, old_at, old_stored, old_taken}
use Rattle.machine_store.proofs.paying.lower_segment.Goals as goal

pub live_bytes-bytes-requires : goal.live_bytes-bytes-requires
live_bytes-bytes-requires c = old_short (setup_of c.args.settings.now) c.args.segments.now.rows c.requires.settled c.args.pay.now c.requires.step c.args.id.0 c.in-Some.old.now (sym c.in-Some.ensures)

pub lower-requires : goal.lower-requires
lower-requires c =
    let same = c.as_slice.ensures ∙ ap (λ (s : SegmentRecord). s.pieces) c.old.view_is in
    old_stored (setup_of c.args.settings.now) c.args.segments.now.rows c.requires.settled c.args.pay.now c.requires.step c.args.id.0 c.in-Some.old.now (sym c.in-Some.ensures) c.as_slice.result.now c.live_bytes-bytes.result same c.live_bytes-bytes.ensures
    (c.a_segment_that_is_there_is_stored.ensures (setup_of c.args.settings.now) c.args.segments.now.rows c.requires.settled c.args.pay.now c.in-Some.old.now c.requires.step
    (old_at (setup_of c.args.settings.now) c.args.segments.now.rows c.requires.settled c.args.pay.now c.requires.step c.args.id.0 c.in-Some.old.now (sym c.in-Some.ensures)))

pub returns-in-Some-clause-step : goal.returns-in-Some-clause-step
returns-in-Some-clause-step c settled step =
    let same = c.as_slice.ensures ∙ ap (λ (s : SegmentRecord). s.pieces) c.old.view_is in
    old_taken (setup_of c.args.settings.now) c.args.segments.now.rows settled c.args.pay.now step c.args.id.0 c.in-Some.old.now (sym c.in-Some.ensures) c.lower.new.self
    (c.lower.ensures.keeps (setup_of c.args.settings.now) c.args.segments.now.rows settled c.in-Some.old.now (sym same) (sym c.live_bytes-bytes.ensures) c.len-rows.ensures.rising
    (old_at (setup_of c.args.settings.now) c.args.segments.now.rows settled c.args.pay.now step c.args.id.0 c.in-Some.old.now (sym c.in-Some.ensures)) step)

pub returns-in_default-clause-step : goal.returns-in_default-clause-step
returns-in_default-clause-step c settled step =
    subst (λ (rows : List SegmentRecord). IsInStep (setup_of c.args.settings.now) rows settled c.args.pay.now)
    (sym (without_none segment_rank c.args.segments.now.rows c.args.id.0 (sym c.in_default.ensures))) step
