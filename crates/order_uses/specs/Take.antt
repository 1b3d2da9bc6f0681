-- What comes of a take of bytes: the row that is kept then, or the first refusal that holds.
use Rattle.std.specs.Prelude.{ℕ, ◌+◌, ◌-◌, Bool, true, false, not, ◌&&◌, ◌==◌, nat_eq, nat_lt, nat_le, if◌then◌else◌, List, length, max, is_none, Option, Some, None, Result, Ok, Err}
use Rattle.std.specs.Cmp.Lexicographic.{pointwise}
use Rattle.sat_base.specs.Results.{◌>>=◌}
use Rattle.sat_base.specs.declared.ids.NodeId.{NodeId}
use Rattle.order_limits.specs.Order.{action_byte}
use Rattle.order_limits.specs.Part.{part}
use Rattle.order_limits.specs.Read.{offer_of}
use Rattle.order_limits.specs.declared.limit.Action.{Action}
use Rattle.order_limits.specs.declared.limit.Action.TheVariants.{Put, Get, GetAudit, GetRepair, PutRepair}
use Rattle.order_limits.specs.declared.limit.Order.{Order}
use Rattle.order_limits.specs.declared.read.OrderErr.{OrderErr}
use Rattle.order_limits.specs.declared.read.OrderErr.TheVariants as no
use Rattle.order_uses.specs.Uses.{use_at}
use Rattle.order_uses.specs.declared.row.OrderUse.{OrderUse}
use Rattle.order_uses.specs.declared.take.TakeErr.{TakeErr}
use Rattle.order_uses.specs.declared.take.TakeErr.TheVariants as errs
use Rattle.order_uses.specs.declared.take.Wanted.{Wanted}

-- a refusal of the order's bytes, as a refusal of the take
abbrev pub refused_bytes : OrderErr → TakeErr
refused_bytes (no.Length got) = errs.Length got
refused_bytes (no.Version got) = errs.Version got
refused_bytes (no.Action got) = errs.Action got
refused_bytes no.LimitTag = errs.LimitTag
refused_bytes no.OrderTag = errs.LimitTag

abbrev pub taken_bytes : Result Order OrderErr → Result Order TakeErr
taken_bytes (Ok order) = Ok order
taken_bytes (Err err) = Err (refused_bytes err)

-- a put has an action that writes, a fetch one that reads
abbrev pub fits_action : Bool → Action → Bool
fits_action put Put = put
fits_action put PutRepair = put
fits_action put Get = not put
fits_action put GetAudit = not put
fits_action put GetRepair = not put

-- the order, unless something of it is no leave for what is wanted, tested in this order
unfoldable pub unfit : NodeId → ℕ → Wanted → Order → Result Order TakeErr
unfit node now wanted order =
    if not (order.limit.node.0 == node.0) then Err (errs.OtherNode order.limit.node)
    else if not (order.limit.segment.0 == wanted.segment.0 && order.limit.index == wanted.index) then Err errs.OtherPiece
    else if not (fits_action wanted.put order.limit.action) then Err (errs.WrongAction (action_byte order.limit.action))
    else if nat_lt order.limit.expires now then Err (errs.Expired order.limit.expires)
    else if nat_lt order.limit.limit order.amount then Err (errs.OverLimit order.limit.limit)
    else Ok order

-- the amount of the order that was kept, and how much was served under it; none of a new serial
abbrev pub amount_of : Result Order OrderErr → ℕ
amount_of (Ok order) = order.amount
amount_of (Err err) = 0

abbrev pub kept_amount : List ℕ → Option OrderUse → ℕ
kept_amount key None = 0
kept_amount key (Some row) = amount_of (offer_of key row.order)

abbrev pub kept_served : Option OrderUse → ℕ
kept_served None = 0
kept_served (Some row) = row.served

-- the first 83 bytes are those of the limit
abbrev pub is_same_limit : List ℕ → Option OrderUse → Bool
is_same_limit bytes None = true
is_same_limit bytes (Some row) = pointwise nat_eq (part 0 83 row.order) (part 0 83 bytes)

abbrev pub is_done : Option OrderUse → Bool
is_done None = false
is_done (Some row) = row.done

-- the order of the greater amount, the kept one on a tie
abbrev pub chosen_order : Bool → List ℕ → Option OrderUse → List ℕ
chosen_order is_greater bytes None = bytes
chosen_order is_greater bytes (Some row) = if is_greater then bytes else row.order

abbrev pub greater_order : List ℕ → List ℕ → ℕ → Option OrderUse → List ℕ
greater_order key bytes amount kept = chosen_order (nat_lt (kept_amount key kept) amount) bytes kept

-- the row of a good order, once the bytes are taken, beside what is kept of its serial among so many rows
unfoldable pub counted_beside : List ℕ → ℕ → ℕ → Option OrderUse → Wanted → Order → Result OrderUse TakeErr
counted_beside key cap count kept wanted order =
    let most = max (kept_amount key kept) order.amount in
    if not (is_same_limit wanted.order kept) then Err errs.OtherLimit
    else if is_done kept then Err errs.OrderDone
    else if nat_lt most (kept_served kept + wanted.len) then Err (errs.Spent (most - kept_served kept))
    else if is_none kept && nat_le cap count then Err (errs.UsesFull cap)
    else Ok (record { serial = order.limit.serial; order = greater_order key wanted.order order.amount kept; served = kept_served kept + wanted.len; done = false })

abbrev pub counted : List ℕ → ℕ → List OrderUse → Wanted → Order → Result OrderUse TakeErr
counted key cap rows wanted order = counted_beside key cap (length rows) (use_at rows order.limit.serial) wanted order

-- the row that the take puts, or the first refusal
unfoldable pub take_case : NodeId → List ℕ → ℕ → List OrderUse → ℕ → Wanted → Result OrderUse TakeErr
take_case node key cap rows now wanted =
    taken_bytes (offer_of key wanted.order) >>= λ order.
    unfit node now wanted order >>= λ fit.
    counted key cap rows wanted fit
