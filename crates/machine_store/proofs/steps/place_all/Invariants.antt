use Rattle.std.proofs.Common.{◌≡◌, ◌≤◌, take, length}
use Rattle.machine_store.specs.Store.{tables_of, GoesByTables, ArePlaced}
use Rattle.machine_store.proofs.steps.place_all.Given as goal

-- the tables are as they were, and the changes so far have room
abbrev pub invariant-loop-change : goal.invariant-loop-change
invariant-loop-change l = record {
  tables : tables_of l.store ≡ tables_of l.fn.store;
  own : GoesByTables l.store;
  placed : ArePlaced l.store (take l.change-index l.changes);
  losses : length l.changes ≤ l.store.segments.room.lost;
}
