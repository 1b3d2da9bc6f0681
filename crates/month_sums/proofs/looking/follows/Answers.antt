use Rattle.std.proofs.Common.{Bool, ap, ◌∙◌}
use Rattle.std.specs.Prelude.{◌&&◌, not, ◌||◌, ◌==◌}
use Rattle.tally_payout.specs.declared.amounts.Statement.{Statement}
use Rattle.node_registry.specs.Standing.{is_disqualified}
use Rattle.month_pay.specs.Rule.{same_statement}
use Rattle.month_sums.proofs.PassLemmas.{follows-by}
use Rattle.month_sums.proofs.looking.follows.Goals as goal

pub returns : goal.returns
returns c l go is_month =
    let s = c.args.s.now in
    let node = c.args.node.now in
    c.both.ensures ∙ (ap (λ (b : Bool). b && c.is_same-same.result) c.may_hold-may.ensures
    ∙ (ap (λ (b : Bool). (not (s.percent == 100) || is_disqualified node.status) && b) (c.is_same-same.ensures ∙ ap (λ (x : Statement). same_statement s x) c.state_as.ensures)
    ∙ follows-by l c.args.month.0 node c.args.sums.now c.args.pot c.args.left.now.rows c.args.rates.now go s is_month))
