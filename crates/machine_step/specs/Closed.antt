-- What stays of a month that is closed.
use Rattle.std.specs.Prelude.{◌≡◌, ℕ, ◌<◌, Some}
use Rattle.sat_base.specs.declared.ids.NodeId.{NodeId}
use Rattle.rows.specs.Rows.{row_at}
use Rattle.tally_payout.specs.declared.amounts.Statement.{Statement}
use Rattle.tally_payout.specs.Ranks.{statement_rank}
use Rattle.month_pay.specs.Ledger.{sums_of}
use Rattle.machine_step.specs.Tables.{Tables}

-- the sums of closed months are the same, and their statements are still there
pub record StaysClosed (old new : Tables) : Type 0 where
  pub sums : (node : NodeId) (month : ℕ) → month < old.marks.month.0 → sums_of new.settled new.tallies node month ≡ sums_of old.settled old.tallies node month
  pub statements : (place : ℕ) (s : Statement) → row_at statement_rank old.statements place ≡ Some s → row_at statement_rank new.statements place ≡ Some s
