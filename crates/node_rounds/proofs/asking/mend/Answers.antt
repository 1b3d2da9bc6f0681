use Rattle.std.proofs.Common.{List, subst}
use Rattle.sat_base.specs.declared.items.Share.{Share}
use Rattle.node_asks.specs.Spreading.{Spreads}
use Rattle.node_asks.proofs.AskLemmas.{all_sent, on_err}
use Rattle.node_rounds.proofs.AskingLemmas.{concluded_by, if_ok, told_by}
use Rattle.node_rounds.proofs.asking.mend.Goals as goal

pub conclude-requires : goal.conclude-requires
conclude-requires g c = told_by c.args.plan c.args.remade.blamed c.args.answered c.in_ok-placed.placed c.args.missing c.requires.can.told c.in_ok-placed.ensures.rising c.in_ok-placed.ensures.among

pub returns-clause-found : goal.returns-clause-found
returns-clause-found g c =
    let s = c.in_ok-placed.ensures in
    let held = g.N.Nodes.held in
    let spread = subst (λ (fresh : List Share). Spreads (held c.args.nodes.now) c.args.plan.segment c.args.targets.now fresh (held c.spread.new.nodes) c.in_ok-placed.placed) c.as_slice-fresh.ensures s.spread in
    if_ok _ _ c.conclude.result c.conclude.ensures (λ outcome. λ concluded. record { placed = c.in_ok-placed.placed; spread = spread; left_out = s.left_out; asks = s.asks; concluded = concluded })

pub returns-clause-by : goal.returns-clause-by
returns-clause-by g c =
    if_ok _ _ c.conclude.result c.conclude.ensures
    (λ outcome. λ concluded. concluded_by c.args.store.now.scheme c.args.plan c.args.remade.blamed c.args.answered c.in_ok-placed.placed c.args.missing outcome concluded)

pub returns-clause-err : goal.returns-clause-err
returns-clause-err g c = on_err c.conclude.result _ (all_sent _ _ _ c.in_ok-placed.ensures.asks)
