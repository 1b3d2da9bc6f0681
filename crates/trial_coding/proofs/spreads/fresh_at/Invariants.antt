use Rattle.std.proofs.Common.{take}
use Rattle.std.specs.List.{AllZip}
use Rattle.node_asks.specs.Spreading.{IsFresh}
use Rattle.trial_coding.proofs.spreads.fresh_at.Given as goal

abbrev pub invariant-loop-place : goal.invariant-loop-place
invariant-loop-place l = AllZip (IsFresh l.len) (take l.place-index l.places) l.fresh.items
