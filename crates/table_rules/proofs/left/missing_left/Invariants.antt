use Rattle.std.proofs.Common.{◌≡◌, ◌≤◌, drop, length}
use Rattle.machine_step.specs.Rules.{least}
use Rattle.machine_step.specs.PlanRules.{missing_lefts}
use Rattle.table_rules.proofs.left.missing_left.Given as goal

-- the least of those from i on
abbrev pub invariant-loop-i : goal.invariant-loop-i
invariant-loop-i l = record {
  within : l.i ≤ length l.nodes;
  worst : l.worst ≡ least (missing_lefts l.left.rows (drop l.i l.nodes));
}

abbrev pub decreases-loop-i : goal.decreases-loop-i
decreases-loop-i l = l.i
