use Rattle.std.proofs.Common.{◌≡◌, ◌≤◌, true, length, reverse, vec_len}
use Rattle.machine_step.specs.Tables.{all_changed}
use Rattle.machine_store.specs.Store.{tables_of, GoesByTables, ArePlaced, are_orderly}
use Rattle.machine_store.proofs.steps.change_all.Given as goal

-- the changes that are left have room, and lead to where all lead
abbrev pub invariant-loop-first : goal.invariant-loop-first
invariant-loop-first l = record {
  placed : ArePlaced l.store (reverse l.rest.items);
  losses : length l.rest.items ≤ l.store.segments.room.lost;
  orderly : are_orderly (reverse l.rest.items) ≡ true;
  own : GoesByTables l.store;
  leads : all_changed (tables_of l.store) (reverse l.rest.items) ≡ all_changed (tables_of l.fn.store) l.fn.changes.items;
}

abbrev pub decreases-loop-first : goal.decreases-loop-first
decreases-loop-first l = vec_len l.rest
