use Rattle.std.proofs.Common.{◌≡◌, take}
use Rattle.repair_core.specs.Indexes.{place_indexes}
use Rattle.bench_coding.proofs.rebuilding.places.Given as goal

abbrev pub invariant-loop-index : goal.invariant-loop-index
invariant-loop-index l = place_indexes l.places.items ≡ take l.index-index l.indexes
