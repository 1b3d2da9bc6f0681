use Rattle.std.proofs.Common.{◌≡◌, rules, sym, subst}
use Rattle.rows.specs.Rows.{Each}
use Rattle.sat_base.specs.Limits.{IsTariffWithin}
use Rattle.machine_step.specs.Rules.{bad_statement}
use Rattle.machine_step.specs.Tables.{setup_of, ledger_of}
use Rattle.machine_step.proofs.MarkLemmas.{month-first}
use Rattle.machine_store.specs.Testing.{tables_in}
use Rattle.machine_store.proofs.PaidBounds.{month_last, rates_within, ledger_is}
use Rattle.machine_store.proofs.list_tests.test_statements.Goals as goal

pub bad_statement-requires-clause-begun : goal.bad_statement-requires-clause-begun
bad_statement-requires-clause-begun c = month-first (setup_of c.args.by.now.settings) c.args.by.now.marks c.requires.opened.marks

pub bad_statement-requires-clause-early : goal.bad_statement-requires-clause-early
bad_statement-requires-clause-early c = month_last (setup_of c.args.by.now.settings) c.args.by.now.marks c.requires.opened.marks c.requires.opened.time

pub bad_statement-requires-clause-rates : goal.bad_statement-requires-clause-rates
bad_statement-requires-clause-rates c = rates_within c.as_slice-2.result.now (subst (Each IsTariffWithin) (sym c.as_slice-2.ensures.value) c.requires.opened.tariffs)

pub returns-in-Some : goal.returns-in-Some
returns-in-Some c =
    let is = ledger_is c.args.by.now c.args.rows.now _ _ _ c.args.sums.now.rows c.nodes.ensures.nodes c.as_slice.ensures.value c.as_slice-2.ensures.value c.requires.opened c.requires.counted in
    let same : c.in_ok-place.field-0 ≡ bad_statement (setup_of c.args.by.now.settings) (ledger_of (tables_in c.args.by.now c.args.rows.now)) = c.in_ok-place.ensures (ledger_of (tables_in c.args.by.now c.args.rows.now)) is in
    search (rules, same)

pub returns-in-None : goal.returns-in-None
returns-in-None c =
    let is = ledger_is c.args.by.now c.args.rows.now _ _ _ c.args.sums.now.rows c.nodes.ensures.nodes c.as_slice.ensures.value c.as_slice-2.ensures.value c.requires.opened c.requires.counted in
    let same : c.in_ok-place.field-0 ≡ bad_statement (setup_of c.args.by.now.settings) (ledger_of (tables_in c.args.by.now c.args.rows.now)) = c.in_ok-place.ensures (ledger_of (tables_in c.args.by.now c.args.rows.now)) is in
    search (rules, same)
