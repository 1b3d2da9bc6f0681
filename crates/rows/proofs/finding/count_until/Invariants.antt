use Rattle.std.proofs.Common.{◌-◌, ◌≤◌, length, drop}
use Rattle.rows.specs.Blocks.{all_rows, BeginsBy, BeginsAbove}
use Rattle.rows.proofs.finding.count_until.Given as goal

-- the blocks before low begin at a rank of at most k, and those from high on above it
abbrev pub invariant-loop-low : goal.invariant-loop-low
invariant-loop-low g l = record {
  order : l.low ≤ l.high;
  within : l.high ≤ length l.blocks;
  by : 1 ≤ l.low → BeginsBy g.R.Ranked.rank l.k (all_rows (drop (l.low - 1) l.blocks));
  above : BeginsAbove g.R.Ranked.rank l.k (all_rows (drop l.high l.blocks));
}

abbrev pub decreases-loop-low : goal.decreases-loop-low
decreases-loop-low g l = l.high - l.low
