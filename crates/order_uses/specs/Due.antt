-- Which order is to be offered: the one of the least serial among those that are due.
use Rattle.std.specs.Prelude.{ℕ, ◌+◌, ◌-◌, ◌^◌, Bool, false, not, ◌&&◌, ◌||◌, ◌==◌, nat_lt, nat_le, List, [], ◌∷◌, filter, if◌then◌else◌, min, Option, Some, None, Result, Ok, Err}
use Rattle.order_limits.specs.Read.{offer_of}
use Rattle.order_limits.specs.declared.grant.TheConstants.{SETTLE_TIME}
use Rattle.order_limits.specs.declared.limit.Limit.{Limit}
use Rattle.order_limits.specs.declared.limit.Order.{Order}
use Rattle.order_limits.specs.declared.read.OrderErr.{OrderErr}
use Rattle.order_uses.specs.declared.row.OrderUse.{OrderUse}

-- all of the limit was served, or it has expired; and there is time to settle it. (SETTLE_TIME is 172800 seconds; sums end at 2^64 - 1)
abbrev pub is_due_at : ℕ → ℕ → Limit → Bool
is_due_at now served l = (served == l.limit || nat_lt l.expires now) && nat_le now (min (l.expires + SETTLE_TIME) (2 ^ 64 - 1))

abbrev pub is_order_due : ℕ → ℕ → Result Order OrderErr → Bool
is_order_due now served (Ok order) = is_due_at now served order.limit
is_order_due now served (Err err) = false

unfoldable pub is_due : List ℕ → ℕ → OrderUse → Bool
is_due key now row = not row.done && is_order_due now row.served (offer_of key row.order)

-- the order of a row, if there is one and it is due
abbrev pub order_if_due : List ℕ → ℕ → Option OrderUse → Option (List ℕ)
order_if_due key now None = None
order_if_due key now (Some row) = if is_due key now row then Some row.order else None

abbrev pub first_order : List OrderUse → Option (List ℕ)
first_order [] = None
first_order (row ∷ rest) = Some row.order

-- rows stand by rising serial, so the first is the one of the least
abbrev pub due_of : List ℕ → List OrderUse → ℕ → Option (List ℕ)
due_of key rows now = first_order (filter (is_due key now) rows)
