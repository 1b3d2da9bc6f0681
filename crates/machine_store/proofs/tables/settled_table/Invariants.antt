use Rattle.std.proofs.Common.{◌≡◌, ◌++◌}
use Rattle.std.specs.Vec.Iter.{into_iter_items}
use Rattle.machine_store.proofs.tables.settled_table.Given as goal

-- the rows so far are those that were taken, and what is left comes behind them
abbrev pub invariant-loop-row : goal.invariant-loop-row
invariant-loop-row l = record {
  rows : l.table.rows ≡ l.yielded;
  cap : l.table.cap ≡ l.fn.cap;
  left : l.yielded ++ into_iter_items l.row-iterator ≡ l.fn.rows.items;
}
