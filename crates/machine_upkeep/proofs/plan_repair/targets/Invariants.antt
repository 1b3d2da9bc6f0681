use Rattle.std.proofs.Common.{◌≤◌, length}
use Rattle.machine_upkeep.proofs.FreshLemmas.{GoOn}
use Rattle.machine_upkeep.proofs.plan_repair.targets.Given as goal

-- the pairs so far and those of the indexes to come are all
abbrev pub invariant-loop-index : goal.invariant-loop-index
invariant-loop-index l = record {
  within : length l.targets.items ≤ length l.ids;
  go_on : GoOn l.n l.sources l.ids l.index l.targets.items;
}
