-- What the satellite does on its own account: the calls that plan it and end it.
use Rattle.std.specs.Prelude.{ℕ, List, Bool, true, false, Option, Some, None}
use Rattle.machine_calls.specs.declared.call.Call.{Call}
use Rattle.machine_calls.specs.declared.call.Call.TheVariants as calls
use Rattle.machine_calls.specs.declared.task.Task.{Task}
use Rattle.machine_calls.specs.declared.task.Task.TheVariants as tasks
use Rattle.machine_calls.specs.declared.reply.Reply.{Reply}
use Rattle.machine_calls.specs.declared.reply.Reply.TheVariants as replies
use Rattle.sat_sessions.specs.Sessions.{is_stopped}
use Rattle.sat_sessions.specs.declared.rounds.RoundEnd.{RoundEnd}
use Rattle.sat_sessions.specs.declared.rounds.RoundEnd.TheVariants as ends
use Rattle.node_rounds.specs.declared.upkeep.Found.{Found}
use Rattle.node_rounds.specs.declared.upkeep.Found.TheVariants as founds
use Rattle.node_rounds.specs.declared.upkeep.Upkeep.{Upkeep}
use Rattle.node_rounds.specs.declared.upkeep.Upkeep.TheVariants as kinds

-- how many random words its plan takes
abbrev pub words_of : Upkeep → ℕ
words_of kinds.Recheck = 0
words_of kinds.Audit = 2
words_of kinds.Repair = 128
words_of kinds.Exit = 128

-- the task that plans it, with random words, and its call at a moment
abbrev pub plan_task : Upkeep → List ℕ → Task
plan_task kinds.Recheck words = tasks.PlanRecheck
plan_task kinds.Audit words = tasks.PlanAudit words
plan_task kinds.Repair words = tasks.PlanRepair words
plan_task kinds.Exit words = tasks.PlanExit words

abbrev pub plan_call : Upkeep → ℕ → List ℕ → Call
plan_call kind now words = calls.Own now (plan_task kind words)

-- the reply holds its plan
abbrev pub is_plan_of : Upkeep → Reply → Bool
is_plan_of kinds.Recheck (replies.RecheckPlanned plan place) = true
is_plan_of kinds.Audit (replies.AuditPlanned plan places) = true
is_plan_of kinds.Repair (replies.RepairPlanned plan sources targets) = true
is_plan_of kinds.Exit (replies.ExitPlanned plan sources target) = true
is_plan_of _ _ = false

-- the task that ends it, with what was found, and its call at a moment
abbrev pub end_task : Found → Task
end_task (founds.Recheck plan checked) = tasks.EndRecheck plan checked
end_task (founds.Audit judged) = tasks.EndAudit judged
end_task (founds.Repair outcome) = tasks.EndRepair outcome
end_task (founds.Exit outcome) = tasks.EndExit outcome

abbrev pub end_call : Found → ℕ → Call
end_call found now = calls.Own now (end_task found)

-- why a round ends after a reply: the machine has stopped. After every other it goes on
abbrev pub stops_by : Bool → Option RoundEnd
stops_by true = Some ends.Stopped
stops_by false = None

abbrev pub is_refusal_to_stop : Reply → Bool
is_refusal_to_stop (replies.Refused cause) = is_stopped cause
is_refusal_to_stop _ = false

abbrev pub went_at : Reply → Option RoundEnd
went_at reply = stops_by (is_refusal_to_stop reply)

-- how a round ends whose last part went so
abbrev pub end_of : Option RoundEnd → RoundEnd
end_of None = ends.Through
end_of (Some why) = why
