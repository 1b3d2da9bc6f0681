-- What contracts see of the rows in memory.
use Rattle.std.specs.Prelude.{ℕ, List}
use Rattle.rows.specs.Rows.{Each}
use Rattle.order_uses.specs.Index.{IsIndexed}
use Rattle.order_uses.specs.Opening.{HasSerial}
use Rattle.order_uses.specs.declared.expiry.Candidate.{Candidate}
use Rattle.order_uses.specs.declared.expiry.Expiry.{Expiry}
use Rattle.order_uses.specs.declared.row.OrderUse.{OrderUse}

pub record TableView : Type 0 where
  -- the node's key
  pub key : List ℕ
  -- by serial
  pub rows : List OrderUse
  -- there is room for one row more where this is 1 or more
  pub room : ℕ

-- the rows go with their index
pub record IsTable (key : List ℕ) (rows : List OrderUse) (moment : ℕ) (waiting : List Expiry) (candidates : List Candidate) : Type 0 where
  pub indexed : IsIndexed key rows moment waiting candidates
  pub serials : Each HasSerial rows
