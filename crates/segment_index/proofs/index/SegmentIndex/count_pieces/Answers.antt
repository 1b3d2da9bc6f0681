use Rattle.std.proofs.Common.{◌≡◌, ℕ, true, ◌∷◌, Option, is_some, sym, ap, ◌∙◌}
use Rattle.sat_base.specs.declared.ids.NodeId.{NodeId}
use Rattle.rows.specs.Rows.{row_at}
use Rattle.segment_index.specs.Keys.{gone_rank, is_key, nodes_of}
use Rattle.segment_index.specs.Segments.{is_gone, segment_at}
use Rattle.segment_index.proofs.Kept.{key_like}
use Rattle.segment_index.proofs.Nodes.{gone_found, gone_more, gone_again}
use Rattle.segment_index.proofs.PairLemmas.{copied_some}
use Rattle.segment_index.proofs.index.SegmentIndex.count_pieces.Goals as goal

pub returns-then-is_some-clause-gone : goal.returns-then-is_some-clause-gone
returns-then-is_some-clause-gone c other =
    let gone : is_gone (nodes_of c.self.inside.counted.rows) c.args.node ≡ true =
    sym (gone_found c.self.inside.counted.rows c.args.node.0)
    ∙ ap (λ (k : ℕ). is_some (row_at gone_rank c.self.inside.counted.rows k)) (sym c.from.ensures)
    ∙ ap is_some (sym c.get.ensures.row) ∙ copied_some c.get.result ∙ sym c.if-is_some.ensures in
    rw (← c.self.view_is) (gone_again (nodes_of c.self.inside.counted.rows) c.args.node other gone)

pub invariant_of-self-2 : goal.invariant_of-self-2
invariant_of-self-2 c =
    record {
      rising = c.self.invariant.rising;
      low = c.self.invariant.low;
      live = c.self.invariant.live;
      by_node = c.self.invariant.by_node;
      by_need = λ healthy id. c.count_all.ensures.by_need healthy id
          ∙ ap (λ (key : Option ℕ). is_key key healthy) (key_like c.self.inside.limits (c.args.node ∷ nodes_of c.reserve.new.self.rows) (nodes_of c.add.new.self.rows) (segment_at c.self.inside.segments.rows id)
          (λ (node : NodeId). sym (rw c.add.ensures.rows (gone_more c.reserve.new.self.rows (record { node = c.args.node }) node))));
    }

pub returns-clause-gone : goal.returns-clause-gone
returns-clause-gone c other =
    rw (c.add.ensures.rows, c.in_ok-reserve.ensures.rows, ← c.self.view_is) (gone_more c.self.inside.counted.rows (record { node = c.args.node }) other)
