-- The rows of a store of uses: kind 50, the serial as 8 bytes, and order 123, served 8, done 1 (0 or 1).
use Rattle.std.specs.Prelude.{ℕ, Bool, true, false, List, [], ◌∷◌, ◌++◌}
use Rattle.std.specs.Int.{w64, to_be_bytes}
use Rattle.sat_base.specs.declared.rows.Row.{Row}
use Rattle.order_uses.specs.declared.row.OrderUse.{OrderUse}

abbrev pub flag : Bool → ℕ
flag true = 1
flag false = 0

-- an order, how much was served under it, and whether it is settled
unfoldable pub use_body : List ℕ → ℕ → Bool → List ℕ
use_body order served done = order ++ to_be_bytes w64 served ++ flag done ∷ []

unfoldable pub use_id : ℕ → List ℕ
use_id serial = to_be_bytes w64 serial

abbrev pub row_of_use : OrderUse → Row
row_of_use row = record {
  kind = 50;
  id = use_id row.serial.0;
  body = use_body row.order row.served row.done;
}
