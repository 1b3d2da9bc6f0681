use Rattle.std.proofs.Common.{◌≡◌, ◌<◌, List, length, filter, option_copied, sym, ap, subst, ◌∙◌, arith}
use Rattle.sat_base.specs.declared.records.At.{At}
use Rattle.segment_core.specs.Health.{is_healthy}
use Rattle.segment_core.specs.Record.{SegmentRecord}
use Rattle.segment_index.specs.Segments.{next_at}
use Rattle.machine_step.specs.Health.{healthy_count}
use Rattle.machine_store.specs.Store.{tables_of}
use Rattle.machine_store.proofs.WalkLemmas.{IsAlong, ids_left, movable-here, movable-later, walk-begun, walk-on, walk-found, walk-fewer}
use Rattle.machine_store.proofs.queries.first_movable.Goals as goal

pub loop-found-init : goal.loop-found-init
loop-found-init c = walk-begun (tables_of c.args.store.now) c.args.node c.requires.valid.order.segments _ c.first_at-found.ensures

pub returns-then-from-healthy : goal.returns-then-from-healthy
returns-then-from-healthy c =
    let t = tables_of c.args.store.now in
    let along = subst (λ found. IsAlong t c.args.node (option_copied found)) c.in-Some.is c.loop-found.invariant in
    let count : c.count_healthy-healthy.result ≡ healthy_count t c.in-Some.segment.now =
    c.count_healthy-healthy.ensures ∙ ap (λ (pieces : List At). length (filter (is_healthy c.args.store.now.nodes.nodes) pieces)) c.as_slice.ensures ∙ ap (λ (s : SegmentRecord). healthy_count t s) c.segment.view_is in
    walk-found t c.args.node c.requires.valid.order.segments c.in-Some.segment.now along (movable-here t c.args.node c.in-Some.segment.now along (omega (arith, count, c.from.ensures, c.if-from-healthy.true)))

pub loop-found-smaller : goal.loop-found-smaller
loop-found-smaller c =
    let t = tables_of c.args.store.now in
    let along = subst (λ found. IsAlong t c.args.node (option_copied found)) c.in-Some.is c.loop-found.invariant in
    let fewer = walk-fewer t c.args.node c.requires.valid.order.segments c.requires.valid c.in-Some.segment.now (option_copied c.next_at-found.result) along
    (c.next_at-found.ensures ∙ ap (λ (s : SegmentRecord). next_at c.args.node s.id.0 c.args.store.now.segments.rows) c.segment.view_is) in
    subst (λ found. ids_left t c.args.node (option_copied c.next_at-found.result) < ids_left t c.args.node (option_copied found)) (sym c.in-Some.is) fewer

pub loop-found-preserved : goal.loop-found-preserved
loop-found-preserved c =
    let t = tables_of c.args.store.now in
    let along = subst (λ found. IsAlong t c.args.node (option_copied found)) c.in-Some.is c.loop-found.invariant in
    let count : c.count_healthy-healthy.result ≡ healthy_count t c.in-Some.segment.now =
    c.count_healthy-healthy.ensures ∙ ap (λ (pieces : List At). length (filter (is_healthy c.args.store.now.nodes.nodes) pieces)) c.as_slice.ensures ∙ ap (λ (s : SegmentRecord). healthy_count t s) c.segment.view_is in
    walk-on t c.args.node c.requires.valid.order.segments c.in-Some.segment.now _ along (movable-later t c.args.node c.in-Some.segment.now (omega (arith, count, c.from.ensures, c.if-from-healthy.false)))
    (c.next_at-found.ensures ∙ ap (λ (s : SegmentRecord). next_at c.args.node s.id.0 c.args.store.now.segments.rows) c.segment.view_is)
