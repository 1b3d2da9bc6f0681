use Rattle.std.proofs.Common.{ℕ, ◌^◌, ◌<◌, ap, subst, sym, ◌∙◌}
use Rattle.sat_base.specs.declared.ids.NodeId.{NodeId}
use Rattle.settlement.specs.Rows.{key}
use Rattle.rows.specs.Slots.{with_row}
use Rattle.month_sums.specs.declared.sums.OpenSums.{OpenSums}
use Rattle.month_sums.specs.Open.{sums_at, more_of, GoByRows}
use Rattle.month_pay.specs.Months.{month_at}
use Rattle.month_sums.proofs.Weights.{settled_keeps}
use Rattle.month_sums.proofs.sums.add_settled.Goals as goal

pub returns-clause-keeps : goal.returns-clause-keeps
returns-clause-keeps c settled tallies statements none go_by =
    let row = c.args.row.now in
    let new : OpenSums = record { month = c.month_settled-month.result; node = c.owner-node.result; sums = c.with_order-sums.result } in
    let low : row.node.0 < 2 ^ 32 = subst (λ (n : NodeId). n.0 < 2 ^ 32) c.owner-node.ensures.node c.owner-node.ensures.low in
    let sums = c.with_order-sums.ensures ∙ ap (λ s. more_of s row.action row.amount) (c.sums_at.ensures ∙ (ap (λ (m : ℕ). sums_at c.args.rows.now.rows m c.owner-node.result) c.month_settled-month.ensures ∙ ap (λ (n : NodeId). sums_at c.args.rows.now.rows (month_at row.at) n) c.owner-node.ensures.node)) in
    subst (λ rows. GoByRows rows (with_row key settled row) tallies statements) (sym c.put.ensures.rows)
    (settled_keeps c.args.rows.now.rows new row settled tallies statements low c.month_settled-month.ensures c.owner-node.ensures.node sums none go_by)
