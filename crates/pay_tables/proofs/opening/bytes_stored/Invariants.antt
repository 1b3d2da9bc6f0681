use Rattle.std.proofs.Common.{take}
use Rattle.machine_step.specs.Tables.{setup_of}
use Rattle.pay_tables.specs.Amounts.{GoBySegments}
use Rattle.pay_tables.proofs.opening.bytes_stored.Given as goal

abbrev pub invariant-loop-i : goal.invariant-loop-i
invariant-loop-i l = GoBySegments (setup_of l.settings) l.stored.rows (take l.i l.segments)
