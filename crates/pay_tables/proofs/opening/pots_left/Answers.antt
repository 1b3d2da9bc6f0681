use Rattle.std.proofs.Common.{◌+◌, List, take, ap, sym, subst, ◌∙◌, refl}
use Rattle.std.specs.Prelude.{get_or}
use Rattle.std.proofs.lemmas.Option.{slice_get-get_or}
use Rattle.rows.specs.Slots.{with_row}
use Rattle.tally_payout.specs.declared.amounts.Statement.{Statement}
use Rattle.pay_tables.specs.declared.balance.Balance.{Balance}
use Rattle.pay_tables.specs.Amounts.{balance_rank, GoByStatements}
use Rattle.pay_tables.proofs.Pots.{pots-behind}
use Rattle.pay_tables.proofs.RowFacts.{take-got}
use Rattle.pay_tables.proofs.Steps.{no_statement}
use Rattle.pay_tables.proofs.opening.pots_left.Goals as goal

pub loop-statement-preserved : goal.loop-statement-preserved
loop-statement-preserved c =
    let statements = c.args.statements.now in
    let i = c.loop-statement.statement-index in
    let s = get_or statements i no_statement in
    let pot : Balance = record { node = s.node; amount = s.pot } in
    let got = slice_get-get_or statements i no_statement c.loop-statement-test.true in
    let pots = c.put.ensures.rows ∙ ap (λ (rows : List Balance). with_row balance_rank rows pot) c.in_ok-place.ensures.rows in
    subst (λ (rows : List Balance). GoByStatements rows (take (i + 1) statements)) (sym pots)
    (subst (λ (rows : List Statement). GoByStatements (with_row balance_rank c.loop-statement.pots.rows pot) rows) (sym (take-got statements i s got))
    (pots-behind c.loop-statement.pots.rows (take i statements) s pot refl refl c.loop-statement.invariant))
