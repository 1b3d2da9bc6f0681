use Rattle.std.proofs.Common.{◌≡◌, ◌+◌, ◌≤◌, ◌++◌, length}
use Rattle.rows.proofs.moving.move_behind.Given as goal

-- both together are the rows as they were
abbrev pub invariant-loop-from : goal.invariant-loop-from
invariant-loop-from g l = record {
  rows : l.from.rows ++ l.to.rows ≡ l.fn.from.rows;
  keep : l.keep ≤ length l.from.rows;
  from_room : l.from.spare + length l.from.rows ≡ l.fn.from.spare + length l.fn.from.rows;
  to_room : l.to.spare + length l.to.rows ≡ l.fn.to.spare;
}

abbrev pub decreases-loop-from : goal.decreases-loop-from
decreases-loop-from g l = length l.from.rows
