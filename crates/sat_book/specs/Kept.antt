-- What writing the rows of a step does to a keeper, and what a call comes to.
use Rattle.std.specs.Prelude.{◌≡◌, ◌⊎◌, ℕ, ◌≤◌, List, [], map}
use Rattle.sat_base.specs.Outside.{Counts}
use Rattle.sat_base.specs.Rows.{Rows, changed}
use Rattle.sat_base.specs.Keeper.{Commits, KeeperView}
use Rattle.sat_base.specs.declared.rows.Change.{Change}
use Rattle.sat_base.specs.declared.keeper.Committed.{Committed}
use Rattle.sat_base.specs.declared.keeper.Committed.TheVariants as committed
use Rattle.machine_calls.specs.declared.call.Call.{Call}
use Rattle.machine_calls.specs.declared.reply.Reply.{Reply}
use Rattle.machine_calls.specs.declared.change.RecChange.{RecChange}
use Rattle.machine_step.specs.Bounds.{Each}
use Rattle.machine_step.specs.Tables.{Tables}
use Rattle.machine_history.specs.History.{IsRight, taken}
use Rattle.machine_store.specs.declared.prepared.Prepared.{Prepared}
use Rattle.sat_book.specs.Book.{Moves}
use Rattle.sat_book.specs.Changes.{row_change}
use Rattle.sat_book.specs.Ids.{AreIds, HasId}
use Rattle.sat_book.specs.Legal.{IsFault, shown}
use Rattle.sat_book.specs.declared.answering.Written.{Written}
use Rattle.sat_book.specs.declared.answering.Written.TheVariants as written

module _ {K : Type 0} (about : K → KeeperView) where
  -- the rows of a step's changes are committed so
  pub record Wrote (changes : List RecChange) (answer : Committed) (old new : K) : Type 0 where
    pub ids : Each HasId changes
    pub commits : Commits (map row_change changes) answer (about old) (about new)

  abbrev pub AreWritten : Prepared → K → K → Written → Type 0
  AreWritten p old new (written.Done reply) = (reply ≡ p.reply) × (((p.changes.items ≡ []) × (new ≡ old)) ⊎ Wrote p.changes.items committed.Done old new)
  AreWritten p old new (written.Fault before after) = (before ≡ (about old).faults) × (after ≡ (about new).faults) × (p.changes.items ≡ [] → ⊥) × Wrote p.changes.items committed.Fault old new
  AreWritten p old new written.NoMemory = (new ≡ old) ⊎ Wrote p.changes.items committed.NoMemory old new

  -- what a call comes to: its reply, the tables behind it, and the keeper
  pub record Answers (t : Tables) (call : Call) (reply : Reply) (next : Tables) (old new : K) : Type 0 where
    pub right : IsRight t (record { call = call; reply = reply })
    pub tables : next ≡ taken t (record { call = call; reply = reply })
    pub ids : AreIds next
    pub fault : IsFault t (about old).faults call reply
    pub counted : (about old).faults ≤ (about new).faults
    pub last : shown (about old).faults reply ≤ (about new).faults
    pub moves : Moves about t call reply old new
