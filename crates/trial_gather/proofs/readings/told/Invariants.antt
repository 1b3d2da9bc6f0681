use Rattle.node_wire.specs.Readings.{IsOpen}
use Rattle.trial_gather.proofs.readings.told.Given as goal

abbrev pub invariant-loop-at : goal.invariant-loop-at
invariant-loop-at l = IsOpen l.reading
