-- What comes of opening a book over a keeper.
use Rattle.std.specs.Prelude.{◌≡◌, ◌⊎◌, ℕ, ◌≤◌, false, List, [], Some, None, Result, Ok, Err}
use Rattle.std.specs.Vec.{vec_capacity}
use Rattle.sat_base.specs.Outside.{Rose}
use Rattle.sat_base.specs.Keeper.{AreOf, Commits, KeeperView, Stays}
use Rattle.sat_base.specs.Rows.{Rows, AreInOrder, AreThe, rows_of, changed}
use Rattle.sat_base.specs.declared.rows.Row.{Row}
use Rattle.sat_base.specs.declared.rows.Change.{Change}
use Rattle.machine_calls.specs.declared.parts.Parts0.{Parts0}
use Rattle.machine_step.specs.Bounds.{IsValid}
use Rattle.machine_step.specs.Broken.{broken}
use Rattle.machine_store.specs.Opening.{first_broken_of}
use Rattle.sat_book.specs.Book.{BookView}
use Rattle.sat_base.specs.declared.keeper.Committed.{Committed}
use Rattle.sat_base.specs.declared.keeper.Committed.TheVariants as committed
use Rattle.sat_book.specs.Ids.{AreIds}
use Rattle.sat_book.specs.ByKind.{AreRecordsOf}
use Rattle.sat_book.specs.Opened.{Becomes, IsFirstBad, IsUpgraded}
use Rattle.sat_book.specs.TableRows.{rows}
use Rattle.sat_book.specs.declared.opened.Ready.{Ready}
use Rattle.sat_book.specs.declared.opening.OpenErr.{OpenErr}
use Rattle.sat_book.specs.declared.opening.OpenErr.TheVariants as errs

-- the machine of rows, or of what becomes of them, and room for so many entries
pub record IsReady (loaded : List Row) (term : ℕ) (ready : Ready) : Type 0 where
  pub becomes : Becomes loaded ready.changes.items ready.rows
  pub ordered : AreInOrder ready.rows
  pub made : rows_of ready.rows ≡ changed ready.changes.items (rows_of loaded)
  pub same : rows_of ready.rows ≡ rows ready.core.tables
  pub running : ready.core.tables.stopped ≡ false
  pub valid : IsValid ready.core.tables
  pub ids : AreIds ready.core.tables
  pub free : ready.core.pending ≡ None
  pub none_yet : ready.history.items ≡ []
  pub room : term ≤ vec_capacity ready.history

-- the tables that rows make, or what becomes of them, break this rule first, by this record
pub record BreaksRule (loaded : List Row) (rule kind : ℕ) (id : List ℕ) : Type 0 where
  pub changes : List Change
  pub rows : List Row
  pub parts : Parts0
  pub becomes : Becomes loaded changes rows
  pub records : AreRecordsOf rows parts
  pub breaks : first_broken_of parts ≡ Some (broken rule kind id)

-- no machine is made of the rows
abbrev pub IsNone : List Row → OpenErr → Type 0
IsNone loaded (errs.BadRow kind id) = IsFirstBad loaded kind id
IsNone loaded (errs.BadTables rule kind id) = BreaksRule loaded rule kind id
IsNone loaded errs.NoMemory = Unit {0}
IsNone loaded errs.Fault = ⊥

-- rows that a keeper's rows become
pub record AreUpgraded (old : Rows) (m : Rows) : Type 0 where
  pub loaded : List Row
  pub changes : List Change
  pub rows : List Row
  pub are : AreThe old loaded
  pub upgrades : IsUpgraded loaded changes rows
  pub made : m ≡ rows_of rows

-- what becomes of opening, by what a commit answers
abbrev pub said_of : Committed → Result (Unit {0}) OpenErr
said_of committed.Done = Ok tt
said_of committed.Fault = Err errs.Fault
said_of committed.NoMemory = Err errs.NoMemory

module _ {K : Type 0} (about : K → KeeperView) where
  -- why a book isn't opened: the keeper's count rose, or no machine is made of its rows
  abbrev pub IsCause : K → K → OpenErr → Type 0
  IsCause old new errs.Fault = Rose (about old).faults (about new).faults
  IsCause old new errs.NoMemory = Unit {0}
  IsCause old new why = (loaded : List Row) × AreOf (about old) (about new) loaded × IsNone loaded why

  -- a keeper is handed back with its rows as they were; a crash leaves them, or what becomes of them
  pub record Refuses (old new : K) (why : OpenErr) : Type 0 where
    pub stays : Stays (about old) (about new)
    pub cause : IsCause old new why
    pub left : (about new).is_clean → (about old).is_open → (about old).tells → (m : Rows) → (about new).leaves m → (m ≡ (about old).rows) ⊎ AreUpgraded (about old).rows m

  -- the changes are committed, if there are any
  abbrev pub Puts : List Change → K → K → Result (Unit {0}) OpenErr → Type 0
  Puts changes old new result =
      ((changes ≡ []) × (new ≡ old) × (result ≡ Ok tt))
      ⊎ ((answer : Committed) × Commits changes answer (about old) (about new) × (result ≡ said_of answer))

  -- the keeper has the rows of the machine
  pub record IsTaken (old new : K) (term : ℕ) (ready : Ready) : Type 0 where
    pub loaded : List Row
    pub is_ready : IsReady loaded term ready
    pub clean : (about new).is_clean → (about old).is_clean
    pub opened : (about new).is_open → (about old).is_open
    pub told : (about new).is_open → (about old).tells → (about new).tells
    pub kept : (about new).is_open → (about old).tells → (about new).rows ≡ rows_of ready.rows
    pub counted : (about old).faults ≤ (about new).faults
    pub are : AreOf (about old) (about new) loaded

  -- a book with no entries yet, over the rows of the keeper that was handed in, or what became of them
  pub record Opens (handed : K) (term : ℕ) (b : BookView K) : Type 0 where
    pub loaded : List Row
    pub changes : List Change
    pub becomes : Becomes loaded changes b.opening.rows
    pub are : AreOf (about handed) (about b.keeper) loaded
    pub first : b.first ≡ handed
    pub opened : b.opened ≡ b.keeper
    pub none_yet : b.history ≡ []
    pub count : b.opening.faults ≡ (about b.keeper).faults
    pub room : term ≤ b.room
