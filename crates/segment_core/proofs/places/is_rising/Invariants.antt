use Rattle.std.proofs.Common.{◌≡◌, drop}
use Rattle.segment_core.specs.Rising.{is_rising}
use Rattle.segment_core.proofs.places.is_rising.Given as goal

abbrev pub invariant-loop-place : goal.invariant-loop-place
invariant-loop-place l = is_rising l.least (drop l.place-index l.places) ≡ is_rising 0 l.places
