use Rattle.std.proofs.Common.{ℕ, List, sym, ap, subst, ◌∙◌}
use Rattle.node_registry.specs.declared.node.Node.{Node}
use Rattle.month_sums.specs.Closing.{GoByPots}
use Rattle.machine_step.specs.Tables.{ledger_of}
use Rattle.pay_tables.specs.Amounts.{amounts_of}
use Rattle.machine_store.specs.Store.{tables_of}
use Rattle.machine_store.proofs.PaidLemmas.{months_closed}
use Rattle.machine_store.proofs.queries.pots_of.Goals as goal

pub returns : goal.returns
returns c =
    let t = tables_of c.args.store.now in
    let rows = c.args.store.now.pay.pots.rows in
    let same = c.in_ok-pots.ensures ∙ ap (λ (ns : List Node). amounts_of rows ns) c.nodes.ensures.nodes in
    subst (λ (pots : List ℕ). GoByPots (ledger_of t) pots) (sym same)
    (c.kept_pots_go_by_a_ledger.ensures (ledger_of t) rows c.requires.own.pay.pots (months_closed t c.requires.valid))
