use Rattle.std.proofs.Common.{◌≡◌}
use Rattle.repair_core.specs.Kept.{IsKept}
use Rattle.trial_coding.proofs.windows.remade_in.Given as goal

abbrev pub invariant-loop-pieces : goal.invariant-loop-pieces
invariant-loop-pieces g l = record {
  kept : IsKept l.repair.scheme.k l.repair.scheme.share l.repair.scheme.n l.repair.count l.repair.sources.now l.rebuilder;
  points : l.scratch.points ≡ l.initial.scratch.points;
}
