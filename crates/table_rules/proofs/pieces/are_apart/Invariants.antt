use Rattle.std.proofs.Common.{◌≡◌, drop}
use Rattle.machine_step.specs.Rules.{are_apart}
use Rattle.machine_step.specs.Places.{subnets_of}
use Rattle.table_rules.proofs.pieces.are_apart.Given as goal

abbrev pub invariant-loop-i : goal.invariant-loop-i
invariant-loop-i l = are_apart (subnets_of l.nodes.nodes l.pieces) ≡ are_apart (subnets_of l.nodes.nodes (drop l.i l.pieces))
