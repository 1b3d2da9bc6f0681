-- What contracts see of the machine: its tables, the call whose step is prepared, and the room in the tables.
use Rattle.std.specs.Prelude.{Option, IfSome}
use Rattle.std.specs.Option.{option_map}
use Rattle.std.specs.declared.snapshot.Snapshot.{Snapshot}
use Rattle.machine_calls.specs.declared.call.Call.{Call}
use Rattle.machine_step.specs.Tables.{Tables}
use Rattle.machine_step.specs.Step.{step, IsWellFormed}
use Rattle.machine_step.specs.Bounds.{IsValid}
use Rattle.machine_store.specs.declared.store.Store.{Store}
use Rattle.machine_store.specs.Store.{tables_of, GoesByTables, HasRoom}

pub record Machine : Type 0 where
  pub tables : Tables
  pub pending : Option Call
  -- the tables as they are kept, with the room that is made in them
  pub store : Store

abbrev pub call_of : Option (Snapshot Call) → Option Call
call_of pending = option_map (λ snapshot. snapshot.value) pending

-- a pending call is well formed, and there is room for the changes of its step
pub record IsPrepared (s : Store) (call : Call) : Type 0 where
  pub formed : IsWellFormed (tables_of s) call
  pub room : HasRoom s (step (tables_of s) call).changes

-- what holds of every machine
pub record IsReady (s : Store) (pending : Option Call) : Type 0 where
  pub valid : IsValid (tables_of s)
  pub own : GoesByTables s
  pub prepared : IfSome pending (IsPrepared s)
