-- What contracts see of the uses over a keeper, and what each call does to them.
use Rattle.std.specs.Prelude.{◌≡◌, ℕ, true, List, [], ◌∷◌, map, Option, Some, None, Result, Ok, Err}
use Rattle.rows.specs.Rows.{Each}
use Rattle.rows.specs.Slots.{with_row}
use Rattle.sat_base.specs.Outside.{Rose}
use Rattle.sat_base.specs.Keeper.{KeeperView, AreOf, Commits, Loads, Stays}
use Rattle.sat_base.specs.Rows.{Rows, AreInOrder, rows_of}
use Rattle.sat_base.specs.declared.ids.NodeId.{NodeId}
use Rattle.sat_base.specs.declared.keeper.Committed.{Committed}
use Rattle.sat_base.specs.declared.keeper.Committed.TheVariants as committed
use Rattle.sat_base.specs.declared.rows.Change.{Change}
use Rattle.sat_base.specs.declared.rows.Change.TheVariants.{Put}
use Rattle.sat_base.specs.declared.rows.Row.{Row}
use Rattle.order_uses.specs.Opening.{AreRowsOf, HasSerial, IsFirstBad}
use Rattle.order_uses.specs.Rows.{row_of_use}
use Rattle.order_uses.specs.Uses.{AreUses, use_rank}
use Rattle.order_uses.specs.declared.opening.UsesErr.{UsesErr}
use Rattle.order_uses.specs.declared.opening.UsesErr.TheVariants as errs
use Rattle.order_uses.specs.declared.row.OrderUse.{OrderUse}
use Rattle.order_uses.specs.declared.take.TakeErr.{TakeErr}
use Rattle.order_uses.specs.declared.take.TakeErr.TheVariants as no

pub record UsesView (K : Type 0) : Type 0 where
  -- by serial
  pub rows : List OrderUse
  -- the node, its key, and how many rows there may be
  pub node : NodeId
  pub key : List ℕ
  pub cap : ℕ
  -- the keeper, as it was handed in, and as it is now
  pub first : K
  pub keeper : K

-- the rows of a store of these uses
abbrev pub store_of : List OrderUse → Rows
store_of uses = rows_of (map row_of_use uses)

-- the one change that puts a row
abbrev pub putting : OrderUse → List Change
putting row = Put (row_of_use row) ∷ []

-- the rows after a commit that was answered so
abbrev pub rows_by : Committed → List OrderUse → OrderUse → List OrderUse
rows_by committed.Done rows row = with_row use_rank rows row
rows_by committed.Fault rows row = rows
rows_by committed.NoMemory rows row = rows

-- what a finish answers after the commit
abbrev pub said_of_finish : Committed → Result (Unit {0}) UsesErr
said_of_finish committed.Done = Ok tt
said_of_finish committed.Fault = Err errs.Fault
said_of_finish committed.NoMemory = Err errs.NoMemory

module _ {K : Type 0} (about : K → KeeperView) where
  -- the uses are those of the keeper's rows
  pub record LoadsUses (key : List ℕ) (old new : K) (uses : List OrderUse) : Type 0 where
    pub loaded : List Row
    pub loads : Loads (about old) (about new) loaded
    pub are : AreRowsOf key loaded uses

  -- why no uses are opened: the keeper's count rose, or a row of it is none of a use
  abbrev pub IsCause : List ℕ → K → K → UsesErr → Type 0
  IsCause key old new errs.Fault = Rose (about old).faults (about new).faults
  IsCause key old new (errs.BadRow kind id) = (loaded : List Row) × AreInOrder loaded × AreOf (about old) (about new) loaded × IsFirstBad key loaded kind id
  IsCause key old new errs.NoMemory = Unit {0}

  -- a keeper is handed back with its rows as they were
  pub record Refuses (key : List ℕ) (old new : K) (why : UsesErr) : Type 0 where
    pub stays : Stays (about old) (about new)
    pub crash : (about new).is_clean → (m : Rows) → (about new).leaves m → (about old).leaves m
    pub cause : IsCause key old new why

  -- uses of the rows of the keeper that was handed in
  pub record Opens (handed : K) (node : NodeId) (key : List ℕ) (cap : ℕ) (uses : UsesView K) : Type 0 where
    pub node_is : uses.node ≡ node
    pub key_is : uses.key ≡ key
    pub cap_is : uses.cap ≡ cap
    pub first_is : uses.first ≡ handed
    pub loads : LoadsUses key handed uses.keeper uses.rows

  -- what holds between two calls: the rows are uses under the key, and an open keeper that tells has just these
  pub record IsKept (uses : UsesView K) : Type 0 where
    pub are : AreUses uses.key uses.rows
    pub serials : Each HasSerial uses.rows
    pub clean : (about uses.keeper).is_clean → (about uses.first).is_clean
    pub opened : (about uses.keeper).is_open → (about uses.first).is_open
    pub told : (about uses.keeper).is_open → (about uses.first).tells → (about uses.keeper).tells
    pub kept : (about uses.keeper).is_open → (about uses.first).tells → (about uses.keeper).rows ≡ store_of uses.rows

  -- what an open keeper of uses leaves at a crash, where it tells: the rows of these uses, and no others
  pub record IsLeft (uses : UsesView K) : Type 0 where
    pub these : (about uses.keeper).is_open → (about uses.first).tells → (about uses.keeper).leaves (store_of uses.rows)
    pub no_other : (about uses.keeper).is_open → (about uses.first).tells → (m : Rows) → (about uses.keeper).leaves m → m ≡ store_of uses.rows

  -- a row is put, in a commit that was answered so. Where it isn't done the rows stay
  pub record Writes (row : OrderUse) (answer : Committed) (old new : UsesView K) : Type 0 where
    pub same : new ≡ record old { rows = rows_by answer old.rows row; keeper = new.keeper }
    pub commits : Commits (putting row) answer (about old.keeper) (about new.keeper)

  -- what a take answers after the commit
  abbrev pub said_of_take : Committed → K → K → Result (Unit {0}) TakeErr
  said_of_take committed.Done old new = Ok tt
  said_of_take committed.Fault old new = Err (no.Fault (about old).faults (about new).faults)
  said_of_take committed.NoMemory old new = Err no.NoMemory

  -- a refused take changes nothing, and doesn't call the keeper. The row of another is committed, and only then answered by Ok
  abbrev pub Takes : Result OrderUse TakeErr → UsesView K → Result (Unit {0}) TakeErr → UsesView K → Type 0
  Takes (Err err) old result new = (result ≡ Err err) × (new ≡ old)
  Takes (Ok row) old result new = (answer : Committed) × Writes row answer old new × (result ≡ said_of_take answer old.keeper new.keeper)

  -- the row is done, once that is committed
  abbrev pub Finishes : Option OrderUse → UsesView K → Result (Unit {0}) UsesErr → UsesView K → Type 0
  Finishes None old result new = ⊥
  Finishes (Some row) old result new = (answer : Committed) × Writes (record row { done = true }) answer old new × (result ≡ said_of_finish answer)
