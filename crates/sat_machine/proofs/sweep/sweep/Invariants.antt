use Rattle.std.proofs.Common.{◌≡◌, ◌++◌, take}
use Rattle.std.specs.Prelude.{map}
use Rattle.machine_step.specs.Containment.{release}
use Rattle.sat_machine.proofs.sweep.sweep.Given as goal

-- the rows so far are released behind the changes
abbrev pub invariant-loop-row : goal.invariant-loop-row
invariant-loop-row l = record {
  reply : l.prepared.reply ≡ l.fn.prepared.reply;
  changes : l.prepared.changes.items ≡ l.fn.prepared.changes.items ++ map release (take l.row-index l.row-items);
}
