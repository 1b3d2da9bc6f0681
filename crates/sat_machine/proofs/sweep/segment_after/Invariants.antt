use Rattle.std.proofs.Common.{◌≡◌, take}
use Rattle.std.specs.Prelude.{option_copied}
use Rattle.machine_step.specs.Tables.{segment_at, all_changed}
use Rattle.machine_store.specs.Store.{tables_of}
use Rattle.sat_machine.proofs.sweep.segment_after.Given as goal

abbrev pub invariant-loop-change : goal.invariant-loop-change
invariant-loop-change l = option_copied l.found ≡ segment_at (all_changed (tables_of l.store) (take l.change-index l.changes)).segments l.id.0
