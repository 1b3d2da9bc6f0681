-- An index of the rows that may be due.
use Rattle.std.specs.Prelude.{◌≡◌, ◌⊎◌, ℕ, ◌+◌, ◌-◌, ◌*◌, ◌^◌, ◌≤◌, false, min, List, Option, IsSome, Some, Ok}
use Rattle.rows.specs.Rows.{row_at}
use Rattle.order_limits.specs.Read.{offer_of}
use Rattle.order_limits.specs.declared.grant.TheConstants.{SETTLE_TIME}
use Rattle.order_limits.specs.declared.limit.Order.{Order}
use Rattle.order_uses.specs.Expiries.{candidate_rank, expiry_place, expiry_rank}
use Rattle.order_uses.specs.Opening.{HasSerial}
use Rattle.order_uses.specs.Uses.{use_rank}
use Rattle.order_uses.specs.declared.expiry.Candidate.{Candidate}
use Rattle.order_uses.specs.declared.expiry.Expiry.{Expiry}
use Rattle.order_uses.specs.declared.row.OrderUse.{OrderUse}

-- the last second at which an order of this expiry can be settled
abbrev pub until_of : ℕ → ℕ
until_of expires = min (expires + SETTLE_TIME) (2 ^ 64 - 1)

-- the order has not expired before the moment, nor is its limit used up, and it is listed by its expiry
pub record Waits (moment : ℕ) (waiting : List Expiry) (row : OrderUse) (order : Order) : Type 0 where
  pub listed : row_at expiry_rank waiting (expiry_place order.limit.expires row.serial.0) ≡ Some (record { expires = order.limit.expires; serial = row.serial.0 })
  pub later : moment ≤ order.limit.expires
  pub unused : row.served ≡ order.limit.limit → ⊥

abbrev pub IsListed : ℕ → List Expiry → List Candidate → OrderUse → Order → Type 0
IsListed moment waiting candidates row order = IsSome (row_at candidate_rank candidates row.serial.0) ⊎ Waits moment waiting row order

-- each row that isn't done, and whose order can still be settled at the moment, is among the candidates or waits
abbrev pub IsIndexed : List ℕ → List OrderUse → ℕ → List Expiry → List Candidate → Type 0
IsIndexed key rows moment waiting candidates = (k : ℕ) (row : OrderUse) (order : Order) → row_at use_rank rows k ≡ Some row → HasSerial row → row.done ≡ false
    → offer_of key row.order ≡ Ok order → moment ≤ until_of order.limit.expires → IsListed moment waiting candidates row order

-- none of those that wait expires before this moment
abbrev pub NoneBefore : ℕ → List Expiry → Type 0
NoneBefore now waiting = (place : ℕ) → IsSome (row_at expiry_rank waiting place) → now * 2 ^ 64 ≤ place

-- the order of the row, if there is one that isn't done, can't be settled any more at the moment
abbrev pub IsOver : List ℕ → ℕ → Option OrderUse → Type 0
IsOver key moment kept = (row : OrderUse) (order : Order) → kept ≡ Some row → row.done ≡ false → offer_of key row.order ≡ Ok order → moment ≤ until_of order.limit.expires → ⊥
