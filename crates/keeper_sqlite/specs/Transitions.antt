-- What a call leaves of a connection's database: of its last commit, of the changes since, and of what a
-- crash may leave.
use Rattle.std.specs.Prelude.{◌≡◌, ◌⊎◌, ◌≤◌, IsTrue, Result, OnOk, OnErr}
use Rattle.sqlite.specs.Tree.{Trees}
use Rattle.sqlite.specs.declared.error.Error.{Error}
use Rattle.sqlite.specs.View.{doubt}
use Rattle.sqlite.specs.State.{State, HasCleanDisk}
use Rattle.sat_base.specs.Rows.{Rows}
use Rattle.keeper_sqlite.specs.Records.{Holds, rows_in}

-- nothing was committed: a crash leaves nothing new, and while the store is open the last commit stands
pub record Keeps (old new : State) : Type 0 where
  pub clean : doubt old.is_clean ≤ doubt new.is_clean
  pub crash : HasCleanDisk new → (trees : Trees) → new.may_leave trees → old.may_leave trees
  pub still : HasCleanDisk new → IsTrue new.is_open → IsTrue old.is_open × (new.committed ≡ old.committed)

-- the statement found the store open, and changed the rows so
pub record Makes (old new : State) (step : Rows → Rows) : Type 0 where
  pub was_open : IsTrue old.is_open
  pub rows : (rows : Rows) → Holds old.now rows → Holds new.now (step rows)

-- the changed rows were committed, or nothing was
pub record Commits (old new : State) (step : Rows → Rows) (result : Result (Unit {0}) Error) : Type 0 where
  pub clean : doubt old.is_clean ≤ doubt new.is_clean
  pub was_open : HasCleanDisk new → IsTrue new.is_open → IsTrue old.is_open
  pub ok : HasCleanDisk new → IsTrue new.is_open → OnOk result ((rows : Rows) → Holds old.committed rows → Holds new.committed (step rows))
  pub err : HasCleanDisk new → IsTrue new.is_open → OnErr result (new.committed ≡ old.committed)
  pub crash : HasCleanDisk new → (trees : Trees) → new.may_leave trees → old.may_leave trees ⊎ (IsTrue old.is_open × ((rows : Rows) → Holds old.committed rows → rows_in trees ≡ step rows))
