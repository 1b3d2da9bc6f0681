-- Which rows a crash may leave of a book.
use Rattle.std.specs.Prelude.{◌≡◌, ◌⊎◌, ℕ, ◌<◌, true, List, [], Some, slice_get, take}
use Rattle.sat_base.specs.Rows.{Rows}
use Rattle.machine_calls.specs.Replies.{is_lost}
use Rattle.machine_step.specs.Tables.{Tables}
use Rattle.machine_step.specs.Step.{step, after}
use Rattle.sat_book.specs.Legal.{E, replayed}
use Rattle.sat_book.specs.TableRows.{rows}

-- an entry changed no record
abbrev pub IsIdle : Tables → E → Type 0
IsIdle t e = (is_lost e.reply ≡ true) ⊎ ((step t e.call).changes ≡ [])

-- the rows are those of the step of a call that was answered as lost, since when no entry changed a record
pub record IsStepLost (start : Tables) (history : List E) (left : Rows) : Type 0 where
  pub place : ℕ
  pub lost : E
  pub stands : slice_get history place ≡ Some lost
  pub was_lost : is_lost lost.reply ≡ true
  pub idle_since : (i : ℕ) (e : E) → place < i → slice_get history i ≡ Some e → IsIdle (replayed start (take i history)) e
  pub made : left ≡ rows (after (replayed start (take place history)) lost.call)

-- a crash leaves the rows of the whole history, or one step more that was answered as lost
abbrev pub MayBeLeft : Tables → List E → Rows → Type 0
MayBeLeft start history left = (left ≡ rows (replayed start history)) ⊎ IsStepLost start history left
