-- Which errors of the database are running out of memory. Every other one is a fault.
use Rattle.std.specs.Prelude.{Bool, true, false}
use Rattle.sqlite.specs.declared.error.Error.{Error}
use Rattle.sqlite.specs.declared.error.Error.TheVariants.{SqliteFailure}
use Rattle.sqlite.specs.declared.error.ErrorCode.TheVariants.{OutOfMemory}
use Rattle.keeper_sqlite.specs.declared.refusal.Refused.{Refused}
use Rattle.keeper_sqlite.specs.declared.refusal.Refused.TheVariants as refused

abbrev pub refusal_of : Error → Refused
refusal_of (SqliteFailure OutOfMemory) = refused.NoMemory
refusal_of _ = refused.Fault

abbrev pub is_fault : Refused → Bool
is_fault refused.Fault = true
is_fault refused.NoMemory = false
