use Rattle.std.proofs.Common.{sym, subst}
use Rattle.month_sums.specs.Counting.{AreOrders, AreHours}
use Rattle.machine_store.specs.Testing.{tables_in}
use Rattle.machine_store.proofs.PaidBounds.{orders_kept, hours_kept, counted_is}
use Rattle.machine_store.proofs.testing.test_paid.Goals as goal

pub count_all-requires-clause-orders : goal.count_all-requires-clause-orders
count_all-requires-clause-orders c =
    subst AreOrders (sym c.as_slice.ensures.value) (orders_kept (tables_in c.args.by.now c.args.rows.now) c.requires c.in_ok-test_settled.ensures)

pub count_all-requires-clause-hours : goal.count_all-requires-clause-hours
count_all-requires-clause-hours c =
    subst AreHours (sym c.as_slice-2.ensures.value) (hours_kept (tables_in c.args.by.now c.args.rows.now) c.requires c.in_ok-test_tallies.ensures)

pub test_statements-requires-clause-counted : goal.test_statements-requires-clause-counted
test_statements-requires-clause-counted c =
    counted_is (tables_in c.args.by.now c.args.rows.now) _ _ _ c.as_slice.ensures.value c.as_slice-2.ensures.value
    (orders_kept (tables_in c.args.by.now c.args.rows.now) c.requires c.in_ok-test_settled.ensures) (hours_kept (tables_in c.args.by.now c.args.rows.now) c.requires c.in_ok-test_tallies.ensures)
    c.in_ok-sums.ensures.rows c.in_ok-sums.ensures.fit c.in_ok-sums.ensures.small

pub returns-clause-sums : goal.returns-clause-sums
returns-clause-sums c =
    counted_is (tables_in c.args.by.now c.args.rows.now) _ _ _ c.as_slice.ensures.value c.as_slice-2.ensures.value
    (orders_kept (tables_in c.args.by.now c.args.rows.now) c.requires c.in_ok-test_settled.ensures) (hours_kept (tables_in c.args.by.now c.args.rows.now) c.requires c.in_ok-test_tallies.ensures)
    c.in_ok-sums.ensures.rows c.in_ok-sums.ensures.fit c.in_ok-sums.ensures.small
