use Rattle.std.proofs.Common.{◌≡◌, take}
use Rattle.rows.specs.Rows.{Each}
use Rattle.machine_store.specs.Freed.{HasNoRoom}
use Rattle.machine_store.specs.Store.{tables_of, GoesByTables}
use Rattle.machine_store.proofs.steps.release_all.Given as goal

-- the tables are as they were, and the room of the changes so far is gone
abbrev pub invariant-loop-change : goal.invariant-loop-change
invariant-loop-change l = record {
  tables : tables_of l.store ≡ tables_of l.fn.store;
  own : GoesByTables l.fn.store → GoesByTables l.store;
  freed : Each (HasNoRoom l.store) (take l.change-index l.changes);
}
