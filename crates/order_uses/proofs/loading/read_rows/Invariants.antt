use Rattle.std.proofs.Common.{◌≡◌, take}
use Rattle.order_uses.specs.Opening.{AreRowsOf}
use Rattle.order_uses.proofs.loading.read_rows.Given as goal

abbrev pub invariant-loop-row : goal.invariant-loop-row
invariant-loop-row l = record { are : AreRowsOf l.key (take l.row-index l.loaded) l.table.rows; key : l.table.key ≡ l.key }
