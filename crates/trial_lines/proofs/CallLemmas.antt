-- What is well formed for any tables is so for those of a scheme.
use Rattle.std.proofs.Common.{IfOk, Result, Ok, Err}
use Rattle.sat_base.specs.declared.scheme.Scheme.{Scheme}
use Rattle.machine_calls.specs.declared.call.Call.{Call}
use Rattle.machine_step.specs.Step.{IsSchemeOf, IsWellFormed}
use Rattle.machine_step.specs.Tables.{Tables}
use Rattle.trial_lines.specs.declared.fields.LineErr.{LineErr}

pub of_any : (scheme : Scheme) (call : Result Call LineErr) → IfOk call (λ call. (t : Tables) → IsWellFormed t call) → IfOk call (λ call. (t : Tables) → IsSchemeOf t.setup scheme → IsWellFormed t call)
of_any scheme (Ok call) any = λ t by. any t
of_any scheme (Err err) any = any
