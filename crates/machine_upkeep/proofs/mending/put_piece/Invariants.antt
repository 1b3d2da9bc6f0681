use Rattle.std.proofs.Common.{◌≡◌, ◌≤◌, ◌++◌, take, drop, length, ◌-◌}
use Rattle.machine_step.specs.Mending.{with_piece}
use Rattle.machine_upkeep.proofs.mending.put_piece.Given as goal

-- the pieces so far stay where they are
abbrev pub invariant-loop-i : goal.invariant-loop-i
invariant-loop-i l = record {
  within : l.i ≤ length l.pieces.items;
  goes_on : with_piece l.pieces.items l.piece ≡ take l.i l.pieces.items ++ with_piece (drop l.i l.pieces.items) l.piece;
}

abbrev pub decreases-loop-i : goal.decreases-loop-i
decreases-loop-i l = length l.pieces.items - l.i
