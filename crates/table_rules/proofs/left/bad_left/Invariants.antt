use Rattle.std.proofs.Common.{◌≡◌, ◌≤◌, drop, length}
use Rattle.machine_step.specs.Rules.{least}
use Rattle.machine_step.specs.PlanRules.{bad_lefts}
use Rattle.table_rules.proofs.left.bad_left.Given as goal

-- the least of those from i on
abbrev pub invariant-loop-i : goal.invariant-loop-i
invariant-loop-i l = record {
  within : l.i ≤ length l.rows;
  worst : l.worst ≡ least (bad_lefts l.marks l.nodes.nodes (drop l.i l.rows));
}

abbrev pub decreases-loop-i : goal.decreases-loop-i
decreases-loop-i l = l.i
