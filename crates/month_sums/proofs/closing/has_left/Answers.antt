use Rattle.std.proofs.Common.{◌≡◌, ℕ, Some, None, option_copied, ap, sym, ◌∙◌}
use Rattle.std.specs.Prelude.{nat_le}
use Rattle.rows.specs.Rows.{row_at}
use Rattle.node_registry.specs.Left.{left_rank}
use Rattle.month_sums.proofs.LeftLemmas.{left_by, has_left-found}
use Rattle.month_sums.proofs.closing.has_left.Goals as goal

pub returns-in-Some : goal.returns-in-Some
returns-in-Some c =
    let rows = c.args.left.now.rows in
    let found : row_at left_rank rows c.args.node.0 ≡ Some c.in-Some.row.now = ap (λ (k : ℕ). row_at left_rank rows k) (sym c.from.ensures) ∙ (sym c.get.ensures ∙ ap option_copied c.in-Some.is) in
    sym (has_left-found rows c.args.node c.args.month.0 c.len-rows.ensures.rising ∙ (ap (left_by c.args.month.0) found ∙ ap (λ (m : ℕ). nat_le m c.args.month.0) (sym c.month_at.ensures)))

pub returns-in-None : goal.returns-in-None
returns-in-None c =
    let rows = c.args.left.now.rows in
    let found : row_at left_rank rows c.args.node.0 ≡ None = ap (λ (k : ℕ). row_at left_rank rows k) (sym c.from.ensures) ∙ (sym c.get.ensures ∙ ap option_copied c.in-None.is) in
    sym (has_left-found rows c.args.node c.args.month.0 c.len-rows.ensures.rising ∙ ap (left_by c.args.month.0) found)
