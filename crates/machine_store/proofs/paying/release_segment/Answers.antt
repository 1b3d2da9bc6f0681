use Rattle.std.proofs.Common.{List, ap, subst, ◌∙◌}
use Rattle.sat_base.specs.declared.records.At.{At}
use Rattle.rows.specs.Rows.{Each}
use Rattle.segment_core.specs.Record.{SegmentRecord}
use Rattle.pay_tables.specs.Amounts.{balance_rank}
use Rattle.machine_store.specs.Freed.{IsTight}
use Rattle.machine_store.proofs.FreedLemmas.{pieces-tight}
use Rattle.machine_store.proofs.paying.release_segment.Goals as goal

pub returns-clause-bytes : goal.returns-clause-bytes
returns-clause-bytes c =
    let new = c.release_pieces.new.self.stored in
    let same = c.as_slice.ensures ∙ ap (λ (s : SegmentRecord). s.pieces) c.segment.view_is in
    subst (λ (pieces : List At). Each (λ piece. IsTight balance_rank new piece.node.0) pieces) same
    (pieces-tight c.args.pay.now.stored new c.release_pieces.ensures.rows.stored c.as_slice.result.now c.release_pieces.ensures.freed)
