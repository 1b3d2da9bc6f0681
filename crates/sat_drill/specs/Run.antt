-- What holds of a drill's machine between two calls, what a call is answered, and what is left at the end.
use Rattle.std.specs.Prelude.{◌≡◌, ℕ, ◌≤◌, List, map}
use Rattle.sat_base.specs.declared.limits.TheConstants as limits
use Rattle.sat_base.specs.KeeperMem.{Keeping}
use Rattle.sat_base.specs.Rows.{AreInOrder, rows_of}
use Rattle.sat_base.specs.declared.rows.Row.{Row}
use Rattle.sat_base.specs.declared.scheme.Scheme.{Scheme}
use Rattle.machine_calls.specs.declared.call.Call.{Call}
use Rattle.machine_calls.specs.declared.reply.Reply.{Reply}
use Rattle.machine_step.specs.Bounds.{IsValid}
use Rattle.machine_step.specs.Tables.{Tables}
use Rattle.machine_history.specs.History.{IsRight}
use Rattle.machine_history.specs.Orders.{SettleOnce}
use Rattle.sat_book.specs.Book.{BookView, start_of}
use Rattle.sat_book.specs.Legal.{E, IsHistory, replayed, said_of}
use Rattle.sat_book.specs.Paid.{ClosedMonthsStay, PaysByTariff}
use Rattle.sat_book.specs.TableRows.{rows}
use Rattle.node_rounds.specs.Askable.{IsStoreOf}
use Rattle.sat_drill.specs.Drill.{NeverFails, sheet_of}

-- a book with room for every entry of a drill, and what of its store nodes are asked with
pub record IsRun (book : BookView Keeping) (secret : List ℕ) (scheme : Scheme) (points : ℕ) : Type 0 where
  pub own : IsStoreOf book.opening secret scheme
  pub lawful : IsHistory (start_of book.opening) book.opening.faults book.history
  pub tables : book.tables ≡ replayed (start_of book.opening) book.history
  pub room : limits.TERM ≤ book.room
  pub wide : scheme.n ≤ points

-- a call was answered by its step from valid tables of the store, or the step was lost
pub record Replies (start : Tables) (call : Call) (reply : Reply) : Type 0 where
  pub tables : Tables
  pub valid : IsValid tables
  pub setup : tables.setup ≡ start.setup
  pub right : IsRight tables (record { call = call; reply = reply })

-- the opening rows and the history of a book that was closed, and the sheet of its first month
pub record IsClosed (opening : List Row) (history : List E) (sheet : List ℕ) : Type 0 where
  pub start : Tables
  pub ordered : AreInOrder opening
  pub same : rows_of opening ≡ rows start
  pub lawful : IsHistory start 0 history
  pub never : NeverFails history
  pub once : SettleOnce start (map said_of history)
  pub pays : PaysByTariff start history
  pub closed : ClosedMonthsStay start history
  pub sheet_is : sheet ≡ sheet_of (replayed start history) start.setup.first_month
