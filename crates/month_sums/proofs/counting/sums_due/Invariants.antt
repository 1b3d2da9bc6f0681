use Rattle.std.proofs.Common.{◌≡◌, ◌^◌, ◌<◌, map, take}
use Rattle.rows.specs.Rows.{Each}
use Rattle.tally_payout.specs.Tariff.{IsSums}
use Rattle.month_sums.specs.Open.{sums_at}
use Rattle.month_sums.proofs.counting.sums_due.Given as goal

abbrev pub invariant-loop-row : goal.invariant-loop-row
invariant-loop-row l = record {
  sums : l.sums.items ≡ map (λ s. sums_at l.counted.rows s.month.0 s.node) (take l.row-index l.rows);
  fit : Each IsSums l.sums.items;
  low : Each (λ s. s.node.0 < 2 ^ 32) (take l.row-index l.rows);
}
