-- The plan that an accepted end of a round holds is the one that was open.
use Rattle.std.specs.Prelude.{◌≡◌, true, List, Option, Some, IsSomeAnd}
use Rattle.turnstile.specs.History.{Each}
use Rattle.machine_calls.specs.declared.call.Call.{Call}
use Rattle.machine_calls.specs.declared.call.Call.TheVariants as calls
use Rattle.machine_calls.specs.declared.task.Task.TheVariants as tasks
use Rattle.machine_calls.specs.declared.reply.Reply.{Reply}
use Rattle.machine_step.specs.Calls.EndExit.{open_move}
use Rattle.machine_step.specs.Mending.{plan_of}
use Rattle.machine_step.specs.Tables.{Tables}
use Rattle.machine_plans.specs.Opened.{is_accepted}
use Rattle.sat_book.specs.Book.{start_of}
use Rattle.sat_book.specs.Legal.{E}
use Rattle.sat_book.specs.declared.opening.Origin.{Origin}
use Rattle.sat_sessions.specs.Good.{tables_at}

-- an end that was accepted at these tables holds their open plan of its kind
abbrev pub HoldsOpen : Tables → Call → Reply → Type 0
HoldsOpen t (calls.Own now (tasks.EndAudit judged)) reply = is_accepted reply ≡ true → t.audit ≡ Some judged.plan
HoldsOpen t (calls.Own now (tasks.EndRecheck plan checked)) reply = is_accepted reply ≡ true → t.recheck ≡ Some plan
HoldsOpen t (calls.Own now (tasks.EndRepair outcome)) reply = is_accepted reply ≡ true → t.repair ≡ Some (plan_of outcome)
HoldsOpen t (calls.Own now (tasks.EndExit outcome)) reply = is_accepted reply ≡ true → open_move t ≡ Some (plan_of outcome)
HoldsOpen t _ reply = Unit {0}

-- so it is of each of these entries, at its place of a history
abbrev pub HoldOpen : {K : Type 0} → Option (Origin K) → List E → List E → Type 0
HoldOpen base history new = IsSomeAnd base (λ origin. Each (λ e. HoldsOpen (tables_at (start_of origin.opening) history e.place) e.call e.reply) new)
