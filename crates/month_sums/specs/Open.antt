-- The sums of a node and a month that has no statement yet.
use Rattle.std.specs.Prelude.{◌≡◌, ℕ, ◌+◌, ◌^◌, ◌<◌, List, Option, Some, None}
use Rattle.sat_base.specs.declared.ids.NodeId.{NodeId}
use Rattle.order_limits.specs.declared.limit.Action.{Action}
use Rattle.order_limits.specs.declared.limit.Action.TheVariants as actions
use Rattle.rows.specs.Rows.{row_at}
use Rattle.settlement.specs.declared.row.SettledRow.{SettledRow}
use Rattle.tally_payout.specs.declared.amounts.Sums.{Sums}
use Rattle.tally_payout.specs.declared.amounts.Tally.{Tally}
use Rattle.tally_payout.specs.declared.amounts.Statement.{Statement}
use Rattle.tally_payout.specs.Ranks.{month_place, statement_rank}
use Rattle.tally_payout.specs.Tariff.{IsSums}
use Rattle.month_pay.specs.Ledger.{sums_of}
use Rattle.month_sums.specs.declared.sums.OpenSums.{OpenSums}

abbrev pub open_rank : OpenSums → ℕ
open_rank row = month_place row.month.0 row.node.0

abbrev pub sums_in : Option OpenSums → Sums
sums_in None = record { get = 0; audit = 0; repair = 0; byte_hours = 0 }
sums_in (Some row) = row.sums

-- what is kept of a node's month; nothing is kept where it did nothing
abbrev pub sums_at : List OpenSums → ℕ → NodeId → Sums
sums_at rows month node = sums_in (row_at open_rank rows (month_place month node.0))

-- with the bytes of one more order
abbrev pub more_of : Sums → Action → ℕ → Sums
more_of sums actions.Get amount = record sums { get = sums.get + amount }
more_of sums actions.GetAudit amount = record sums { audit = sums.audit + amount }
more_of sums actions.GetRepair amount = record sums { repair = sums.repair + amount }
more_of sums actions.Put amount = sums
more_of sums actions.PutRepair amount = sums

-- the sums that are kept are those of the rows, for each node and month without a statement
abbrev pub GoByRows : List OpenSums → List SettledRow → List Tally → List Statement → Type 0
GoByRows rows settled tallies statements = (node : NodeId) (month : ℕ) → node.0 < 2 ^ 32 → row_at statement_rank statements (month_place month node.0) ≡ None
    → sums_at rows month node ≡ sums_of settled tallies node month

-- what is kept is within the bounds of sums
abbrev pub AreInBounds : List OpenSums → Type 0
AreInBounds rows = (node : NodeId) (month : ℕ) → node.0 < 2 ^ 32 → IsSums (sums_at rows month node)

-- with the bytes of one more hour
abbrev pub with_bytes : Sums → ℕ → Sums
with_bytes sums bytes = record sums { byte_hours = sums.byte_hours + bytes }
