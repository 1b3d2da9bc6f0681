use Rattle.std.proofs.Common.{◌≡◌, take}
use Rattle.std.specs.Prelude.{option_copied}
use Rattle.node_registry.specs.Registry.{node_at}
use Rattle.machine_step.specs.Tables.{all_changed}
use Rattle.machine_store.specs.Store.{tables_of}
use Rattle.sat_machine.proofs.sweep.node_after.Given as goal

abbrev pub invariant-loop-change : goal.invariant-loop-change
invariant-loop-change l = option_copied l.found ≡ node_at (all_changed (tables_of l.store) (take l.change-index l.changes)).nodes l.id
