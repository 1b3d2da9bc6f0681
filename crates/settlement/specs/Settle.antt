-- What an order settles as: the first refusal that holds, a repeat, or a new row.
use Rattle.std.specs.Prelude.{◌≡◌, ℕ, ◌+◌, ◌-◌, ◌^◌, ◌≤◌, List, length, Option, Some, None, Result, Ok, Err, ◌==◌, nat_lt, min, if◌then◌else◌}
use Rattle.sat_base.specs.declared.ids.NodeId.{NodeId}
use Rattle.order_limits.specs.Order.{IsGoodOrder}
use Rattle.order_limits.specs.Read.{order_of}
use Rattle.order_limits.specs.declared.grant.TheConstants.{SETTLE_TIME}
use Rattle.order_limits.specs.declared.limit.Order.{Order}
use Rattle.order_limits.specs.declared.read.OrderErr.{OrderErr}
use Rattle.settlement.specs.declared.row.SettledRow.{SettledRow}
use Rattle.settlement.specs.declared.answer.Settlable.{Settlable}
use Rattle.settlement.specs.declared.answer.Settlable.TheVariants as may
use Rattle.settlement.specs.declared.answer.Settling.{Settling}
use Rattle.settlement.specs.declared.answer.Settling.TheVariants as did
use Rattle.settlement.specs.declared.answer.SettleErr.{SettleErr}
use Rattle.settlement.specs.declared.answer.SettleErr.TheVariants as no
use Rattle.settlement.specs.Place.{place}
use Rattle.settlement.specs.Rows.{key, row_of, added}
use Rattle.settlement.specs.Refusals.{as_settle}

-- the last second at which an order can be settled: two days after its limit expires
abbrev pub until_of : Order → ℕ
until_of o = min (o.limit.expires + SETTLE_TIME) (2 ^ 64 - 1)

-- the row that an order makes
abbrev pub row_for : Order → ℕ → SettledRow
row_for o now = record { serial = o.limit.serial; node = o.limit.node; action = o.limit.action; amount = o.amount; at = now }

-- an order whose serial and node have no row
unfoldable pub fresh : List SettledRow → ℕ → Order → ℕ → Result Settlable SettleErr
fresh rows cap o now =
    if nat_lt (until_of o) now then Err (no.Late (until_of o))
    else (if nat_lt o.limit.limit o.amount then Err (no.OverLimit o.limit.limit)
    else (if length rows == cap then Err (no.SettledFull cap)
    else Ok (may.New (row_for o now))))

-- an order, beside the row of its serial and node
unfoldable pub beside : Option SettledRow → List SettledRow → ℕ → Order → ℕ → Result Settlable SettleErr
beside None rows cap o now = fresh rows cap o now
beside (Some r) rows cap o now = if r.amount == o.amount then Ok (may.Again o.amount) else Err (no.Differs r.amount)

-- an order that a node presents
unfoldable pub order_settlable : List SettledRow → ℕ → NodeId → ℕ → Order → Result Settlable SettleErr
order_settlable rows cap node now o =
    if o.limit.node.0 == node.0 then beside (row_of rows (place o.limit.serial o.limit.node)) rows cap o now
    else Err (no.OtherNode o.limit.node)

abbrev pub on_order : Result Order OrderErr → (Order → Result Settlable SettleErr) → Result Settlable SettleErr
on_order (Ok o) f = f o
on_order (Err e) f = Err (as_settle e)

-- the bytes that a node presents
unfoldable pub settlable : List SettledRow → ℕ → List ℕ → NodeId → ℕ → List ℕ → Result Settlable SettleErr
settlable rows cap secret node now bytes = on_order (order_of secret bytes) (order_settlable rows cap node now)

-- ---- settling

abbrev pub settled_as : Result Settlable SettleErr → Result Settling SettleErr
settled_as (Ok (may.New r)) = Ok (did.Settled r.amount)
settled_as (Ok (may.Again a)) = Ok (did.Again a)
settled_as (Err e) = Err e

abbrev pub rows_after : Result Settlable SettleErr → List SettledRow → List SettledRow
rows_after (Ok (may.New r)) rows = added r rows
rows_after (Ok (may.Again a)) rows = rows
rows_after (Err e) rows = rows

-- P, unless memory ran out
abbrev pub UnlessMemory : Result Settling SettleErr → Type 0 → Type 0
UnlessMemory (Ok s) P = P
UnlessMemory (Err no.NoMemory) P = Unit {0}
UnlessMemory (Err _) P = P

-- P, where the answer is a new row
abbrev pub IfNew : Result Settlable SettleErr → (SettledRow → Type 0) → Type 0
IfNew (Ok (may.New r)) P = P r
IfNew (Ok (may.Again a)) P = Unit {0}
IfNew (Err e) P = Unit {0}

-- P, where the answer is that the order was settled
abbrev pub IfSettled : Result Settling SettleErr → (ℕ → Type 0) → Type 0
IfSettled (Ok (did.Settled amount)) P = P amount
IfSettled (Ok (did.Again a)) P = Unit {0}
IfSettled (Err e) P = Unit {0}

-- the row of a good order of this node, in time and within its limit
pub record IsRowOf (secret : List ℕ) (node : NodeId) (now : ℕ) (bytes : List ℕ) (row : SettledRow) : Type 0 where
  pub order : Order
  pub good : IsGoodOrder secret bytes order
  pub own : order.limit.node.0 ≡ node.0
  pub in_time : now ≤ until_of order
  pub within : order.amount ≤ order.limit.limit
  pub made : row ≡ row_for order now

-- the amount was settled by a row whose serial and node had none before
pub record SettlesFirst (before after : List SettledRow) (secret : List ℕ) (node : NodeId) (now : ℕ) (bytes : List ℕ) (amount : ℕ) : Type 0 where
  pub row : SettledRow
  pub is_row : IsRowOf secret node now bytes row
  pub amount_is : row.amount ≡ amount
  pub none_before : row_of before (key row) ≡ None
  pub there_now : row_of after (key row) ≡ Some row

-- each row that was there is there
abbrev pub KeepsRows : List SettledRow → List SettledRow → Type 0
KeepsRows before after = (k : ℕ) (row : SettledRow) → row_of before k ≡ Some row → row_of after k ≡ Some row
