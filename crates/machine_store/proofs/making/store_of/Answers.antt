use Rattle.std.proofs.Common.{◌≡◌, ◌≤◌, None, List, length, sym, subst, ◌∙◌, arith}
use Rattle.rows.specs.Rows.{Each}
use Rattle.segment_core.specs.Record.{SegmentRecord}
use Rattle.settlement.specs.declared.row.SettledRow.{SettledRow}
use Rattle.machine_step.specs.Bounds.{IsSetupWithin}
use Rattle.machine_step.specs.Broken.{first_some}
use Rattle.machine_step.specs.Tables.{Tables, setup_of}
use Rattle.machine_step.proofs.MarkLemmas.{are_nodes}
use Rattle.pay_tables.specs.InStep.{IsInStep, IsShort}
use Rattle.machine_store.specs.Opening.{NamesSome, tables_made}
use Rattle.machine_store.specs.Testing.{IsOpened, paid_tests, rest_tests, tables_in, tables_beside}
use Rattle.machine_store.proofs.OpeningLemmas.{marks_kept, none_first, none_later, none_mapped}
use Rattle.machine_store.proofs.BrokenLemmas.{tests-back, at_paid, at_rest}
use Rattle.machine_store.proofs.PaidBounds.{paid_short, paid_few}
use Rattle.machine_store.proofs.making.store_of.Goals as goal

pub test_paid-requires : goal.test_paid-requires
test_paid-requires c =
    let opened : IsOpened (tables_made c.args.settings c.args.marks c.args.parts) = record {
      setup = c.requires.setup;
      marks = marks_kept (setup_of c.args.settings) c.args.marks (none_first _ _ c.in_ok-test_front.ensures);
      time = omega arith;
      nodes = are_nodes (setup_of c.args.settings) c.args.marks c.args.parts.nodes.items c.requires.setup.caps.nodes.1 (none_mapped _ _ (none_first _ _ (none_later _ _ c.in_ok-test_front.ensures)));
      settled = c.requires.settled;
      tallies = c.requires.tallies;
      statements = c.requires.statements;
      tariffs = c.requires.tariffs_within;
    } in
    subst IsOpened (sym c.in_ok-others.ensures.tables) opened

pub returns-in_err-sums-clause-rules : goal.returns-in_err-sums-clause-rules
returns-in_err-sums-clause-rules c =
    let broken = subst (λ (t : Tables). NamesSome c.in_err-sums.field-0.0 (first_some (paid_tests t))) c.in_ok-others.ensures.tables c.in_err-sums.ensures.rules in
    tests-back c.from_residual-in_err-sums.result c.in_err-sums.field-0.0 _ c.from_residual-in_err-sums.ensures.1
    (at_paid (tables_made c.args.settings c.args.marks c.args.parts) c.in_ok-test_front.ensures c.in_err-sums.field-0.0 broken)

pub of-requires-clause-short : goal.of-requires-clause-short
of-requires-clause-short c =
    let within = subst (λ (t : Tables). IsSetupWithin t.setup) (sym c.in_ok-others.ensures.tables) c.requires.setup in
    subst (Each IsShort) (sym c.as_slice.ensures.value) (paid_short (tables_in c.in_ok-others.others c.in_ok-others.paid) c.in_ok-sums.ensures.rules within)

pub settled_table-requires-clause-within : goal.settled_table-requires-clause-within
settled_table-requires-clause-within c =
    subst (λ (t : Tables). length c.in_ok-others.paid.settled.items ≤ t.setup.caps.settled) c.in_ok-others.ensures.tables (paid_few (tables_in c.in_ok-others.others c.in_ok-others.paid) c.in_ok-sums.ensures.rules)

pub returns-in_err-test_rest-clause-rules : goal.returns-in_err-test_rest-clause-rules
returns-in_err-test_rest-clause-rules c =
    let paid = subst (λ (t : Tables). first_some (paid_tests t) ≡ None) c.in_ok-others.ensures.tables c.in_ok-sums.ensures.rules in
    let beside = subst (λ (rows : List SegmentRecord). NamesSome c.in_err-test_rest.field-0.0 (first_some (rest_tests (tables_beside c.in_ok-others.others rows)))) c.in_ok-segments.ensures.rows c.in_err-test_rest.ensures in
    let broken = subst (λ (t : Tables). NamesSome c.in_err-test_rest.field-0.0 (first_some (rest_tests t))) c.in_ok-others.ensures.tables beside in
    tests-back c.from_residual-in_err-test_rest.result c.in_err-test_rest.field-0.0 _ c.from_residual-in_err-test_rest.ensures.1
    (at_rest (tables_made c.args.settings c.args.marks c.args.parts) c.in_ok-test_front.ensures paid c.in_err-test_rest.field-0.0 broken)

pub returns-clause-own : goal.returns-clause-own
returns-clause-own c =
    let counted = c.in_ok-sums.ensures.sums in
    let step = c.in_ok-pay.ensures.step c.in_ok-others.paid.settled.items counted.rows counted.small counted.orders.few counted.hours.small counted.hours.early in
    let indexed = subst (λ (rows : List SegmentRecord). IsInStep (setup_of c.args.settings) rows c.in_ok-others.paid.settled.items c.in_ok-pay.pay) (c.as_slice.ensures.value ∙ sym c.in_ok-segments.ensures.rows) step in
    record {
      setup = c.requires.setup;
      keys = c.new.ensures;
      cap = c.in_ok-settled.ensures.cap;
      limits = c.in_ok-segments.ensures.limits;
      lost = c.in_ok-segments.ensures.lost;
      pay = subst (λ (rows : List SettledRow). IsInStep (setup_of c.args.settings) c.in_ok-segments.segments.rows rows c.in_ok-pay.pay) (sym c.in_ok-settled.ensures.rows) indexed;
    }
