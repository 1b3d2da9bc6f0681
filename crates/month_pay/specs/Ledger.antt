-- What the pay of months goes by, and the statements of a month that is closed.
use Rattle.std.specs.Prelude.{ℕ, ◌+◌, ◌-◌, Bool, true, false, ◌&&◌, ◌==◌, nat_lt, nat_le, List, ◌++◌, map, filter}
use Rattle.std.specs.List.{sum_by, list_any}
use Rattle.sat_base.specs.declared.ids.NodeId.{NodeId}
use Rattle.sat_base.specs.declared.rates.Tariff.{Tariff}
use Rattle.order_limits.specs.declared.limit.Action.{Action}
use Rattle.order_limits.specs.declared.limit.Action.TheVariants as actions
use Rattle.node_registry.specs.declared.node.Node.{Node}
use Rattle.node_registry.specs.Standing.{is_disqualified}
use Rattle.settlement.specs.declared.row.SettledRow.{SettledRow}
use Rattle.tally_payout.specs.declared.amounts.Sums.{Sums}
use Rattle.tally_payout.specs.declared.amounts.Statement.{Statement}
use Rattle.tally_payout.specs.declared.amounts.Tally.{Tally}
use Rattle.tally_payout.specs.Tariff.{tariff_in, rates_of}
use Rattle.tally_payout.specs.Statement.{statement_of, last_pot}
use Rattle.node_registry.specs.declared.node.Left.{Left}
use Rattle.month_pay.specs.Months.{month_at, month_of_hour}

-- the records that pay goes by, the first month of the store, and the next month to close
pub record Ledger : Type 0 where
  pub first : ℕ
  pub next : ℕ
  pub nodes : List Node
  pub settled : List SettledRow
  pub tallies : List Tally
  pub left : List Left
  pub tariffs : List Tariff
  pub statements : List Statement

-- ---- what a node did in a month

abbrev pub is_get : Action → Bool
is_get actions.Get = true
is_get _ = false

abbrev pub is_audit : Action → Bool
is_audit actions.GetAudit = true
is_audit _ = false

abbrev pub is_repair : Action → Bool
is_repair actions.GetRepair = true
is_repair _ = false

-- the settled rows of a node that were settled in a month
unfoldable pub settled_in : List SettledRow → NodeId → ℕ → List SettledRow
settled_in rows node month = filter (λ row. (row.node.0 == node.0) && (month_at row.at == month)) rows

-- the tallies of a node whose hour begins in a month
unfoldable pub tallied_in : List Tally → NodeId → ℕ → List Tally
tallied_in rows node month = filter (λ row. (row.node.0 == node.0) && (month_of_hour row.hour.0 == month)) rows

-- the bytes that were moved for a cause
abbrev pub moved : (Action → Bool) → List SettledRow → ℕ
moved for rows = sum_by (λ row. row.amount) (filter (λ row. for row.action) rows)

abbrev pub sums_of : List SettledRow → List Tally → NodeId → ℕ → Sums
sums_of settled tallies node month = record {
  get = moved is_get (settled_in settled node month);
  audit = moved is_audit (settled_in settled node month);
  repair = moved is_repair (settled_in settled node month);
  byte_hours = sum_by (λ row. row.bytes) (tallied_in tallies node month);
}

-- ---- the statement of a node and a month

-- the node has joined by the month
unfoldable pub has_joined : ℕ → Node → Bool
has_joined month node = nat_le (month_at node.joined) month

-- the node has left in good order by the month
unfoldable pub has_left : List Left → NodeId → ℕ → Bool
has_left left node month = list_any (λ row. (row.node.0 == node.0) && nat_le (month_at row.at) month) left

-- the pot that the node's statements of earlier months left
unfoldable pub pot_before : List Statement → NodeId → ℕ → ℕ
pot_before rows node month = last_pot 0 (filter (λ s. (s.node.0 == node.0) && nat_lt s.month.0 month) rows)

-- the age counts the months since the node joined, of which that of joining is the first
unfoldable pub stated : Ledger → ℕ → Node → Bool → Statement
stated l month node gone = statement_of
    node.id
    (record { 0 = month })
    (month + 1 - month_at node.joined)
    gone
    (has_left l.left node.id month)
    (sums_of l.settled l.tallies node.id month)
    (pot_before l.statements node.id month)
    (rates_of (tariff_in month l.tariffs))

-- a node's statement as its month is closed
abbrev pub closing : Ledger → ℕ → Node → Statement
closing l month node = stated l month node (is_disqualified node.status)

-- the statements of a month: one of each node that has joined by then
unfoldable pub month_rows : Ledger → ℕ → List Statement
month_rows l month = map (closing l month) (filter (has_joined month) l.nodes)

-- the next month is closed
abbrev pub closed : Ledger → Ledger
closed l = record l { next = l.next + 1; statements = l.statements ++ month_rows l l.next }
