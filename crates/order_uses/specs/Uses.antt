-- What a node keeps of the orders that it served under: one row of a serial.
use Rattle.std.specs.Prelude.{◌≡◌, ℕ, ◌≤◌, List, Option, Ok}
use Rattle.sat_base.specs.declared.ids.Serial.{Serial}
use Rattle.order_limits.specs.declared.limit.Order.{Order}
use Rattle.order_limits.specs.Read.{offer_of}
use Rattle.rows.specs.Rows.{Each, IsRising, row_at}
use Rattle.order_uses.specs.declared.row.OrderUse.{OrderUse}

-- rows stand by serial, which the order's bytes name at their place
abbrev pub use_rank : OrderUse → ℕ
use_rank row = row.serial.0

abbrev pub use_at : List OrderUse → Serial → Option OrderUse
use_at rows serial = row_at use_rank rows serial.0

-- the row's bytes are an order under the key, of its serial; no more was served than its amount, which is within its limit
pub record IsUnderKey (key : List ℕ) (row : OrderUse) : Type 0 where
  pub order : Order
  pub offered : offer_of key row.order ≡ Ok order
  pub own : order.limit.serial ≡ row.serial
  pub served : row.served ≤ order.amount
  pub within : order.amount ≤ order.limit.limit

-- what holds of the rows at every moment
pub record AreUses (key : List ℕ) (rows : List OrderUse) : Type 0 where
  pub rising : IsRising use_rank rows
  pub each : Each (IsUnderKey key) rows
