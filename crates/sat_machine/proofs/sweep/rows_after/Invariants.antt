use Rattle.std.proofs.Common.{◌≡◌, take}
use Rattle.machine_step.specs.Tables.{all_changed}
use Rattle.machine_store.specs.Store.{tables_of}
use Rattle.sat_machine.proofs.sweep.rows_after.Given as goal

abbrev pub invariant-loop-change : goal.invariant-loop-change
invariant-loop-change l = l.rows.rows ≡ (all_changed (tables_of l.store) (take l.change-index l.changes)).containments
