-- Rows of a store, as uses.
use Rattle.std.specs.Prelude.{◌≡◌, ℕ, ◌<◌, ◌^◌, List, map, slice_get, Some}
use Rattle.rows.specs.Rows.{Each}
use Rattle.sat_base.specs.declared.rows.Row.{Row}
use Rattle.order_uses.specs.Rows.{row_of_use}
use Rattle.order_uses.specs.Uses.{AreUses, IsUnderKey}
use Rattle.order_uses.specs.declared.opening.UsesErr.{UsesErr}
use Rattle.order_uses.specs.declared.opening.UsesErr.TheVariants as errs
use Rattle.order_uses.specs.declared.row.OrderUse.{OrderUse}

-- the row is that of a use under the key
abbrev pub IsUse : List ℕ → Row → Type 0
IsUse key row = (one : OrderUse) × IsUnderKey key one × (row ≡ row_of_use one)

abbrev pub HasSerial : OrderUse → Type 0
HasSerial one = one.serial.0 < 2 ^ 64

-- the uses whose rows these are
pub record AreRowsOf (key : List ℕ) (loaded : List Row) (uses : List OrderUse) : Type 0 where
  pub uses_are : AreUses key uses
  pub serials : Each HasSerial uses
  pub rows_are : map row_of_use uses ≡ loaded

-- the first row, in the order of the keys, that is none of a use has this kind and this id
pub record IsFirstBad (key : List ℕ) (loaded : List Row) (kind : ℕ) (id : List ℕ) : Type 0 where
  pub place : ℕ
  pub row : Row
  pub stands : slice_get loaded place ≡ Some row
  pub its_kind : kind ≡ row.kind
  pub its_id : id ≡ row.id
  pub bad : IsUse key row → ⊥
  pub others : (i : ℕ) (other : Row) → i < place → slice_get loaded i ≡ Some other → IsUse key other

-- an error names the first row that is none of a use, unless memory ran out
abbrev pub NamesFirst : List ℕ → List Row → UsesErr → Type 0
NamesFirst key loaded (errs.BadRow kind id) = IsFirstBad key loaded kind id
NamesFirst key loaded errs.NoMemory = Unit {0}
NamesFirst key loaded errs.Fault = ⊥

-- an error names this row, unless memory ran out
abbrev pub Names : Row → UsesErr → Type 0
Names row (errs.BadRow kind id) = (kind ≡ row.kind) × (id ≡ row.id)
Names row errs.NoMemory = Unit {0}
Names row errs.Fault = ⊥
