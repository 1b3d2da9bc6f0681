-- What contracts see of a book, and what holds of every book.
use Rattle.std.specs.Prelude.{◌≡◌, ◌⊎◌, ℕ, ◌≤◌, List, [], Option, IsSomeAnd, true, false}
use Rattle.std.specs.Option.{option_map}
use Rattle.sat_base.specs.Keeper.{KeeperView}
use Rattle.sat_base.specs.Rows.{Rows, AreInOrder, rows_of}
use Rattle.machine_calls.specs.declared.call.Call.{Call}
use Rattle.machine_calls.specs.declared.reply.Reply.{Reply}
use Rattle.machine_calls.specs.Replies.{is_lost}
use Rattle.machine_step.specs.Tables.{Tables}
use Rattle.machine_step.specs.Step.{step, after, IsWellFormed}
use Rattle.machine_step.specs.Bounds.{IsValid}
use Rattle.machine_history.specs.History.{taken}
use Rattle.sat_book.specs.Ids.{AreIds}
use Rattle.sat_book.specs.Legal.{E, IsHistory, last_shown, replayed}
use Rattle.sat_book.specs.Crash.{MayBeLeft}
use Rattle.sat_book.specs.TableRows.{rows}
use Rattle.sat_book.specs.declared.opening.Opening.{Opening}
use Rattle.sat_book.specs.declared.opening.Origin.{Origin}

-- the tables that a book was opened with
abbrev pub start_of : Opening → Tables
start_of opening = opening.core.value.tables

-- what is true of the entries of a desk's book, and which calls may be entered
abbrev pub AreOf : {K : Type 0} → Option (Origin K) → List E → Type 0
AreOf base entries = IsSomeAnd base (λ origin. IsHistory (start_of origin.opening) origin.opening.faults entries)

abbrev pub MayEnter : {K : Type 0} → Option (Origin K) → Call → Type 0
MayEnter base call = IsSomeAnd base (λ origin. IsWellFormed (start_of origin.opening) call)

-- what a book was opened with, where it is known of which book a pass is
abbrev pub opening_of : {K : Type 0} → Option (Origin K) → Option Opening
opening_of base = option_map (λ origin. origin.opening) base

-- the opening rows are those of the tables, which are valid, and the machine runs
pub record Spell (opening : Opening) : Type 0 where
  pub ordered : AreInOrder opening.rows
  pub same : rows_of opening.rows ≡ rows (start_of opening)
  pub running : (start_of opening).stopped ≡ false
  pub valid : IsValid (start_of opening)

-- a book over a keeper
pub record BookView (K : Type 0) : Type 0 where
  pub opening : Opening
  -- the keeper, as it was handed in, as the book was opened over it, and as it is now
  pub first : K
  pub opened : K
  pub keeper : K
  -- the tables of the machine
  pub tables : Tables
  -- the calls that were applied, in their order
  pub history : List E
  -- how many the book has room for
  pub room : ℕ

-- what no call changes of it
abbrev pub origin_of : {K : Type 0} → BookView K → Origin K
origin_of b = record { opening = b.opening; first = b.first; opened = b.opened }

-- ---- over what keeps the rows

module _ {K : Type 0} (about : K → KeeperView) where
  -- rows that may be left after a call: rows that might before, where no record changed; those of its step, where it was answered as lost;
  -- or the rows that the keeper has
  abbrev pub LeftBy : Tables → Call → Reply → K → K → Rows → Type 0
  LeftBy t call reply old new left =
      (((is_lost reply ≡ true) ⊎ ((step t call).changes ≡ [])) × (about old).leaves left)
      ⊎ (((is_lost reply ≡ true) × ((about old).is_open × ((about old).tells → (about old).rows ≡ rows t → left ≡ rows (after t call))))
      ⊎ ((about new).is_open × ((about new).tells → left ≡ (about new).rows)))

  -- what a call that was answered so does to the keeper
  pub record Moves (t : Tables) (call : Call) (reply : Reply) (old new : K) : Type 0 where
    pub clean : (about new).is_clean → (about old).is_clean
    pub opened : (about new).is_open → (about old).is_open
    pub told : (about new).is_open → (about old).tells → (about new).tells
    pub kept : (about new).is_open → (about old).tells → (about old).rows ≡ rows t → (about new).rows ≡ rows (taken t (record { call = call; reply = reply }))
    pub left : (about new).is_clean → (m : Rows) → (about new).leaves m → LeftBy t call reply old new m
    pub one_step : (about new).is_clean → (m : Rows) → (about new).leaves m → (about old).leaves m ⊎ ((about old).is_open × ((about old).tells → (about old).rows ≡ rows t → m ≡ rows (after t call)))

  -- the keeper told what it keeps as it was handed in, and was open as the book was opened
  pub record Told (first opened : K) : Type 0 where
    pub was_open : (about opened).is_open
    pub told : (about first).tells

  -- the keeper goes with the tables that a history leaves
  pub record Keeps (first over keeper : K) (start : Tables) (history : List E) : Type 0 where
    pub opened : (about keeper).is_open → (about first).is_open
    pub clean : (about keeper).is_clean → (about first).is_clean
    pub told : (about keeper).is_open → (about first).tells → (about keeper).tells
    pub kept : (about keeper).is_open → (about first).tells → (about keeper).rows ≡ rows (replayed start history)
    pub left : (about keeper).is_clean → Told first over → (m : Rows) → (about keeper).leaves m → MayBeLeft start history m

  -- what holds of every book, between two calls
  pub record IsBook (b : BookView K) : Type 0 where
    pub spelled : Spell b.opening
    pub lawful : IsHistory (start_of b.opening) b.opening.faults b.history
    pub tables : b.tables ≡ replayed (start_of b.opening) b.history
    pub ids : AreIds b.tables
    pub counted : (about b.first).faults ≤ b.opening.faults
    pub shown : last_shown b.opening.faults b.history ≤ (about b.keeper).faults
    pub keeps : Keeps b.first b.opened b.keeper (start_of b.opening) b.history
