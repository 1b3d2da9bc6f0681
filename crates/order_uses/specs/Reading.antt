-- A row of a store, read as a use.
use Rattle.std.specs.Prelude.{ℕ, zero, suc, ◌<◌, Bool, true, false, ◌&&◌, ◌==◌, nat_eq, nat_le, if◌then◌else◌, List, length, slice_index, Option, Some, None, Result, Ok, Err}
use Rattle.std.specs.Cmp.Lexicographic.{pointwise}
use Rattle.std.specs.Int.{w64}
use Rattle.sat_base.specs.declared.rows.Row.{Row}
use Rattle.order_limits.specs.Part.{part}
use Rattle.order_limits.specs.Read.{number_in, offer_of}
use Rattle.order_limits.specs.declared.limit.Order.{Order}
use Rattle.order_limits.specs.declared.read.OrderErr.{OrderErr}
use Rattle.order_uses.specs.Rows.{use_id}
use Rattle.order_uses.specs.declared.row.OrderUse.{OrderUse}

abbrev pub AreBytes : List ℕ → Type 0
AreBytes bytes = (i : ℕ) → slice_index bytes i < 256

-- what a flag says
abbrev pub flag_in : ℕ → Option Bool
flag_in zero = Some false
flag_in (suc zero) = Some true
flag_in (suc (suc n)) = None

-- the use of an order that was read, where the id is its serial's and the numbers allow it
abbrev pub use_made : List ℕ → List ℕ → ℕ → Bool → Result Order OrderErr → Option OrderUse
use_made id order served done (Ok offer) =
    if pointwise nat_eq id (use_id offer.limit.serial.0) && nat_le served offer.amount && nat_le offer.amount offer.limit.limit
    then Some (record { serial = offer.limit.serial; order = order; served = served; done = done })
    else None
use_made id order served done (Err err) = None

abbrev pub use_flagged : List ℕ → Row → Option Bool → Option OrderUse
use_flagged key row (Some done) = use_made row.id (part 0 123 row.body) (number_in w64 123 row.body) done (offer_of key (part 0 123 row.body))
use_flagged key row None = None

-- the use that the row is read as
unfoldable pub use_in : List ℕ → Row → Option OrderUse
use_in key row = if row.kind == 50 && length row.body == 132 then use_flagged key row (flag_in (slice_index row.body 131)) else None
