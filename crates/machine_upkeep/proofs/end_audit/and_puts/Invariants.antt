use Rattle.std.proofs.Common.{◌≡◌, ◌++◌, map, take}
use Rattle.machine_calls.specs.declared.change.RecChange.TheVariants as changes
use Rattle.machine_upkeep.proofs.end_audit.and_puts.Given as goal

abbrev pub invariant-loop-containment : goal.invariant-loop-containment
invariant-loop-containment l = l.changes.items ≡ l.fn.changes.items ++ (map changes.Node l.nodes ++ map changes.Containment (take l.containment-index l.contained))
