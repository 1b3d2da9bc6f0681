use Rattle.std.proofs.Common.{◌≡◌, ◌++◌}
use Rattle.std.specs.Vec.Iter.{into_iter_items}
use Rattle.rows.proofs.slots.SlottedRows.of.Given as goal

-- the rows so far are those that were taken, and what is left comes behind them
abbrev pub invariant-loop-row : goal.invariant-loop-row
invariant-loop-row g l = record {
  rows : l.slots.rows ≡ l.yielded;
  left : l.yielded ++ into_iter_items l.row-iterator ≡ l.fn.rows.items;
}
