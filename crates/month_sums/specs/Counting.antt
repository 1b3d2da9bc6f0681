-- The rows that can be counted: in their order, and no more than a store can have.
use Rattle.std.specs.Prelude.{ℕ, ◌*◌, ◌^◌, ◌<◌, ◌≤◌, List, length}
use Rattle.sat_base.specs.Moments.{IsMoment}
use Rattle.rows.specs.Rows.{Each, IsRising}
use Rattle.sat_base.specs.declared.limits.TheConstants as limits
use Rattle.settlement.specs.declared.row.SettledRow.{SettledRow}
use Rattle.settlement.specs.Rows.{key}
use Rattle.tally_payout.specs.declared.amounts.Tally.{Tally}
use Rattle.tally_payout.specs.Ranks.{tally_rank}

pub record AreOrders (rows : List SettledRow) : Type 0 where
  pub rising : IsRising key rows
  pub few : length rows ≤ limits.SETTLED

-- amounts of eight bytes
abbrev pub AreSmall : List SettledRow → Type 0
AreSmall rows = Each (λ row. row.amount < 2 ^ 64) rows

pub record AreHours (rows : List Tally) : Type 0 where
  pub rising : IsRising tally_rank rows
  pub small : Each (λ row. row.bytes ≤ 2 ^ 44) rows
  pub few : length rows ≤ limits.TALLIES
  pub early : Each (λ row. IsMoment (row.hour.0 * 3600)) rows
