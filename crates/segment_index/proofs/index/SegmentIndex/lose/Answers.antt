use Rattle.std.proofs.Common.{◌≡◌, ℕ, true, is_some, sym, ap, ◌∙◌}
use Rattle.rows.specs.Rows.{row_at}
use Rattle.segment_index.specs.Keys.{gone_rank, nodes_of}
use Rattle.segment_index.specs.Segments.{is_gone}
use Rattle.segment_index.proofs.Nodes.{gone_found, gone_more, gone_again}
use Rattle.segment_index.proofs.PairLemmas.{copied_some}
use Rattle.segment_index.proofs.index.SegmentIndex.lose.Goals as goal

pub returns-then-is_none-clause-pending : goal.returns-then-is_none-clause-pending
returns-then-is_none-clause-pending c other =
    rw (c.add.ensures.rows, ← c.self.view_is) (gone_more c.self.inside.pending.rows (record { node = c.args.node }) other)

pub returns-else-is_none-clause-pending : goal.returns-else-is_none-clause-pending
returns-else-is_none-clause-pending c other =
    let gone : is_gone (nodes_of c.self.inside.pending.rows) c.args.node ≡ true =
    sym (gone_found c.self.inside.pending.rows c.args.node.0)
    ∙ ap (λ (k : ℕ). is_some (row_at gone_rank c.self.inside.pending.rows k)) (sym c.from.ensures)
    ∙ ap is_some (sym c.get.ensures.row) ∙ copied_some c.get.result ∙ c.if-is_none.ensures in
    rw (← c.self.view_is) (gone_again (nodes_of c.self.inside.pending.rows) c.args.node other gone)
