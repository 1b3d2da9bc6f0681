use Rattle.segment_core.specs.Places.{IsOffer}
use Rattle.bench_machine.proofs.made.pieces.Given as goal

abbrev pub invariant-loop-index : goal.invariant-loop-index
invariant-loop-index l = IsOffer l.index l.pieces.items
