use Rattle.std.proofs.Common.{ℕ, ◌≡◌, ◌<◌, ◌≤◌}
use Rattle.gf_linear.specs.Table.{at}
use Rattle.gf_linear.proofs.elimination.find_pivot.Given as goal

abbrev pub invariant-loop-row : goal.invariant-loop-row
invariant-loop-row l = (i : ℕ) → l.rank ≤ i → i < l.row → at l.m i l.col ≡ 0
