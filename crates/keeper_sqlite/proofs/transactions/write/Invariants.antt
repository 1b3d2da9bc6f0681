use Rattle.std.proofs.Common.{◌≡◌, ◌<◌, IsTrue, take}
use Rattle.sqlite.specs.State.{HasCleanDisk}
use Rattle.sqlite.specs.Held.{state}
use Rattle.sat_base.specs.Rows.{Rows, changed}
use Rattle.keeper_sqlite.specs.Records.{Holds}
use Rattle.keeper_sqlite.specs.Transitions.{Keeps}
use Rattle.keeper_sqlite.proofs.transactions.write.Given as goal

abbrev pub invariant-changes : goal.invariant-changes
invariant-changes g l =
    let first = state g.S.Store l.fn.conn in
    let now = state g.S.Store l.tx.conn.now in
    record {
      name : l.tx.conn.ghost_name ≡ l.initial.tx.conn.ghost_name;
      kept : Keeps first now;
      went : HasCleanDisk now → 0 < l.change-index → IsTrue first.is_open;
      rows : HasCleanDisk now → (rows : Rows) → Holds first.now rows → Holds now.now (changed (take l.change-index l.changes) rows);
    }
