use Rattle.std.proofs.Common.{◌≡◌}
use Rattle.repair_core.specs.Kept.{IsKept}
use Rattle.bench_coding.proofs.rebuilding.rebuild.Given as goal

abbrev pub invariant-windows : goal.invariant-windows
invariant-windows g l = record {
  kept : IsKept l.repair.scheme.k l.repair.scheme.share l.repair.scheme.n l.repair.count l.repair.sources.now l.rebuilder;
  points : l.scratch.points ≡ l.initial.scratch.points;
}
