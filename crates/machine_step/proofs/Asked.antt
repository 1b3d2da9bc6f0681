-- A request that is formed may be asked of any tables.
use Rattle.std.proofs.Common.{◌≡◌, true}
use Rattle.machine_calls.specs.Replies.{is_request}
use Rattle.machine_calls.specs.declared.call.Call.{Call}
use Rattle.machine_calls.specs.declared.call.Call.TheVariants as calls
use Rattle.machine_calls.specs.declared.task.Task.TheVariants as tasks
use Rattle.machine_step.specs.Step.{IsAsked, IsByScheme, IsWellFormed}
use Rattle.machine_step.specs.Tables.{Setup, Tables}

by_scheme : (setup : Setup) (call : Call) → is_request call ≡ true → IsByScheme setup call
by_scheme setup (calls.Own now (tasks.EndAudit judged)) asked = absurd cc
by_scheme setup (calls.Own now (tasks.EndRepair outcome)) asked = absurd cc
by_scheme setup (calls.Own now (tasks.EndExit outcome)) asked = absurd cc
by_scheme setup call asked = tt

pub asked_well_formed : (t : Tables) (call : Call) → IsAsked call → IsWellFormed t call
asked_well_formed t call is = record { formed = is.formed; scheme = by_scheme t.setup call is.asked }
