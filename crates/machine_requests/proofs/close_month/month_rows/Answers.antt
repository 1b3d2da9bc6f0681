use Rattle.std.proofs.Common.{refl, sym, subst, rules}
use Rattle.std.specs.Prelude.{List}
use Rattle.month_sums.specs.Closing.{GoByPots}
use Rattle.machine_step.specs.Tables.{ledger_of}
use Rattle.machine_store.specs.Store.{tables_of}
use Rattle.std.proofs.lemmas.Result.{IfOk-weaker}
use Rattle.machine_requests.proofs.ClosingLemmas.{can_close, goes_by}
use Rattle.machine_requests.proofs.close_month.month_rows.Goals as goal

pub close_all-requires : goal.close_all-requires
close_all-requires c =
    let t = tables_of c.args.store.now in
    let pots = c.as_slice.ensures.value in
    let nodes = c.nodes.ensures.nodes in
    let rates = c.in_ok-rates.ensures in
    let kept : GoByPots (ledger_of t) c.in_ok-pots.pots.items = c.in_ok-pots.ensures in
    rw (nodes, pots, rates) (can_close t c.requires.valid c.in_ok-pots.pots.items c.args.store.now.pay.sums.rows kept c.requires.own.pay.sums)

pub returns : goal.returns
returns c =
    let t = tables_of c.args.store.now in
    let pots = c.as_slice.ensures.value in
    let rates = c.in_ok-rates.ensures in
    let kept : GoByPots (ledger_of t) c.in_ok-pots.pots.items = c.in_ok-pots.ensures in
    IfOk-weaker c.close_all.result _ _ (λ rows h. h (ledger_of t) refl (sym c.nodes.ensures.nodes)
    (rw (pots, rates) (goes_by t c.requires.valid c.in_ok-pots.pots.items c.args.store.now.pay.sums.rows kept c.requires.own.pay.sums))) c.close_all.ensures.months
