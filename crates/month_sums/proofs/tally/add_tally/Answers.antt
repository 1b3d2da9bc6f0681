use Rattle.std.proofs.Common.{◌≡◌, ℕ, ◌^◌, ◌<◌, ap, subst, sym, refl, ◌∙◌}
use Rattle.sat_base.specs.declared.ids.NodeId.{NodeId}
use Rattle.rows.specs.Slots.{with_row}
use Rattle.tally_payout.specs.declared.amounts.Sums.{Sums}
use Rattle.month_pay.specs.Months.{month_of_hour}
use Rattle.tally_payout.specs.Ranks.{tally_rank}
use Rattle.month_sums.specs.declared.sums.OpenSums.{OpenSums}
use Rattle.month_sums.specs.Open.{sums_at, with_bytes, GoByRows}
use Rattle.month_sums.proofs.TallyWeights.{tally_keeps}
use Rattle.month_sums.proofs.tally.add_tally.Goals as goal

pub returns-clause-keeps : goal.returns-clause-keeps
returns-clause-keeps c settled tallies statements none go_by =
    let row = c.args.tally.now in
    let rows = c.args.rows.now.rows in
    let new : OpenSums = record { month = c.month_of_hour-month.result; node = c.node_tallied-node.result; sums = c.with_bytes-sums.result } in
    let low : row.node.0 < 2 ^ 32 = subst (λ (n : NodeId). n.0 < 2 ^ 32) c.node_tallied-node.ensures.node c.node_tallied-node.ensures.low in
    let sums = c.with_bytes-sums.ensures ∙ ap (λ (s : Sums). with_bytes s row.bytes) (c.sums_at.ensures ∙ (ap (λ (m : ℕ). sums_at rows m c.node_tallied-node.result) c.month_of_hour-month.ensures ∙ ap (λ (n : NodeId). sums_at rows (month_of_hour row.hour.0) n) c.node_tallied-node.ensures.node)) in
    subst (λ rows. GoByRows rows settled (with_row tally_rank tallies row) statements) (sym c.put.ensures.rows)
    (tally_keeps rows new row settled tallies statements low c.month_of_hour-month.ensures c.node_tallied-node.ensures.node sums none go_by)
