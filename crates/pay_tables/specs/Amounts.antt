-- Amounts that are kept of nodes, and what they go by.
use Rattle.std.specs.Prelude.{◌≡◌, ℕ, if◌then◌else◌, List, Option, Some, None, is_some, true, map}
use Rattle.std.specs.List.{list_any, sum_by}
use Rattle.sat_base.specs.declared.ids.NodeId.{NodeId}
use Rattle.sat_base.specs.declared.records.At.{At}
use Rattle.rows.specs.Rows.{row_at}
use Rattle.rows.specs.Slots.{Slots, has_slot}
use Rattle.node_registry.specs.declared.node.Node.{Node}
use Rattle.segment_core.specs.Record.{SegmentRecord}
use Rattle.tally_payout.specs.declared.amounts.Statement.{Statement}
use Rattle.tally_payout.specs.Statement.{last_pot}
use Rattle.month_pay.specs.Keeping.{of_node}
use Rattle.machine_step.specs.Tables.{Setup}
use Rattle.machine_step.specs.Containment.{is_live}
use Rattle.machine_step.specs.Stored.{piece_bytes, share_of}
use Rattle.machine_step.specs.Calls.PlanExit.{lies_on}
use Rattle.pay_tables.specs.declared.balance.Balance.{Balance}

abbrev pub balance_rank : Balance → ℕ
balance_rank balance = balance.node.0

abbrev pub amount_in : Option Balance → ℕ
amount_in None = 0
amount_in (Some balance) = balance.amount

-- the amount of a node; it is 0 where there is no row
abbrev pub amount_at : List Balance → NodeId → ℕ
amount_at rows node = amount_in (row_at balance_rank rows node.0)

-- the amounts of nodes, in order
abbrev pub amounts_of : List Balance → List Node → List ℕ
amounts_of rows nodes = map (λ node. amount_at rows node.id) nodes

-- each row has its slot, so that it can be put again
abbrev pub HasItsSlots : Slots Balance → Type 0
HasItsSlots t = (k : ℕ) → is_some (row_at balance_rank t.rows k) ≡ true → has_slot t k ≡ true

-- what pieces weigh at a node: it counts once, however many of them lie at it
abbrev pub bytes_at : NodeId → List At → ℕ → ℕ
bytes_at node pieces bytes = if list_any (lies_on node) pieces then bytes else 0

-- the bytes of each piece of a live segment. A pending one stores nothing yet
abbrev pub live_bytes : Setup → SegmentRecord → ℕ
live_bytes setup segment = if is_live segment then piece_bytes setup segment else 0

-- each amount is the bytes of the pieces of live segments at the node
abbrev pub GoBySegments : Setup → List Balance → List SegmentRecord → Type 0
GoBySegments setup stored segments = (node : NodeId) → amount_at stored node ≡ sum_by (share_of setup node) segments

-- each amount is what the node's last statement left
abbrev pub GoByStatements : List Balance → List Statement → Type 0
GoByStatements pots statements = (node : NodeId) → amount_at pots node ≡ last_pot 0 (of_node node statements)
