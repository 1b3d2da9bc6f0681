use Rattle.std.proofs.Common.{◌≡◌, ℕ, None, is_some, sym, ap, ◌∙◌}
use Rattle.rows.specs.Rows.{row_at}
use Rattle.segment_index.specs.Keys.{live_rank}
use Rattle.segment_index.proofs.LiveLemmas.{added_new, put_again}
use Rattle.segment_index.proofs.PairLemmas.{copied_some, none_found}
use Rattle.segment_index.proofs.live.move_live.Goals as goal

pub returns-then-is_none-clause-rows : goal.returns-then-is_none-clause-rows
returns-then-is_none-clause-rows c =
    let is = ap (λ (k : ℕ). row_at live_rank c.args.live.now.rows k) (sym c.from-rank.ensures) ∙ sym c.get.ensures.row in
    let absent : row_at live_rank c.args.live.now.rows c.args.id ≡ None = none_found _ (ap is_some is ∙ copied_some c.get.result ∙ c.if-is_none.ensures) in
    rw c.if-not-is_live.false (c.add.ensures.rows ∙ added_new live_rank c.args.live.now.rows (record { id = c.args.id }) absent)

pub returns-else-is_none-clause-rows : goal.returns-else-is_none-clause-rows
returns-else-is_none-clause-rows c =
    let is = ap (λ (k : ℕ). row_at live_rank c.args.live.now.rows k) (sym c.from-rank.ensures) ∙ sym c.get.ensures.row in
    rw c.if-not-is_live.false (sym (put_again c.args.live.now.rows c.args.id c.get.ensures.rising (ap is_some is ∙ copied_some c.get.result ∙ c.if-is_none.ensures)))
