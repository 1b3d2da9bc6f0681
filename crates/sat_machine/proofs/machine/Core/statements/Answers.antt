use Rattle.std.proofs.Common.{◌≡◌, ◌≤◌, List, length, sym, subst, ◌∙◌, ap}
use Rattle.std.specs.Prelude.{All, ◌==◌, filter}
use Rattle.std.proofs.lemmas.Result.{IfOk-weaker}
use Rattle.tally_payout.specs.declared.amounts.Statement.{Statement}
use Rattle.tally_payout.specs.Sheet.{IsPrintable}
use Rattle.machine_store.specs.Store.{tables_of}
use Rattle.sat_machine.proofs.SheetLemmas.{sheet_printable, sheet_few}
use Rattle.sat_machine.proofs.machine.Core.statements.Goals as goal

pub returns-clause-few : goal.returns-clause-few
returns-clause-few c =
    let t = tables_of c.self.inside.store in
    let rows = c.as_slice.ensures.value ∙ c.in_ok-rows.ensures.rows in
    IfOk-weaker c.of_month.result _ _ (λ due is.
    subst (λ (xs : List Statement). length xs ≤ 65536) (sym (is ∙ ap (filter (λ s. s.month.0 == c.args.month.0)) rows)) (sheet_few t c.self.invariant.valid c.args.month.0)) c.of_month.ensures

pub returns-clause-small : goal.returns-clause-small
returns-clause-small c =
    let t = tables_of c.self.inside.store in
    let rows = c.as_slice.ensures.value ∙ c.in_ok-rows.ensures.rows in
    IfOk-weaker c.of_month.result _ _ (λ due is.
    subst (λ (xs : List Statement). All IsPrintable xs) (sym (is ∙ ap (filter (λ s. s.month.0 == c.args.month.0)) rows)) (sheet_printable t c.self.invariant.valid c.args.month.0)) c.of_month.ensures
