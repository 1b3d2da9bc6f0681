-- What the ends of a round say of its nodes.
use Rattle.std.specs.Prelude.{◌≡◌, ◌⊎◌, ℕ, ◌+◌, ◌-◌, ◌^◌, ◌<◌, ◌≤◌, List, length, Option, Some, None}
use Rattle.sha2.specs.Sha256.{sha256}
use Rattle.sat_base.specs.declared.nodes.Ask.{Ask}
use Rattle.sat_base.specs.declared.nodes.Held.{Held}
use Rattle.sat_base.specs.Nodes.{asked_of, range_of}
use Rattle.turnstile.specs.History.{total}
use Rattle.audit_core.specs.declared.rechecking.Checked.{Checked}
use Rattle.audit_core.specs.declared.rechecking.Checked.TheVariants as checks
use Rattle.repair_core.specs.declared.outcome.RepairOutcome.{RepairOutcome}
use Rattle.repair_core.specs.declared.outcome.RepairOutcome.TheVariants as repairs
use Rattle.machine_calls.specs.declared.call.Call.{Call}
use Rattle.machine_calls.specs.declared.call.Call.TheVariants as calls
use Rattle.machine_calls.specs.declared.task.Task.TheVariants as tasks
use Rattle.sat_book.specs.Legal.{E}

-- the targets of a mended repair that aren't told as placed
abbrev pub left_out_of : RepairOutcome → ℕ
left_out_of (repairs.Mended mended) = length mended.plan.targets - length mended.placed
left_out_of (repairs.Unmended unmended) = 0

abbrev pub silent_check : Checked → ℕ
silent_check checks.Silent = 1
silent_check _ = 0

-- the nodes that an end calls silent, or at which it tells no piece as placed
abbrev pub unanswered_in : Call → ℕ
unanswered_in (calls.Own now (tasks.EndAudit judged)) = length judged.silent
unanswered_in (calls.Own now (tasks.EndRecheck plan checked)) = silent_check checked
unanswered_in (calls.Own now (tasks.EndRepair outcome)) = left_out_of outcome
unanswered_in (calls.Own now (tasks.EndExit outcome)) = left_out_of outcome
unanswered_in _ = 0

-- they number at most the rise of a count that doesn't end at its last value
abbrev pub CountsUnanswered : List E → ℕ → ℕ → Type 0
CountsUnanswered new old later = later < 2 ^ 64 - 1 → old + total (λ e. unanswered_in e.call) new ≤ later

-- where nodes tell what they hold, a recheck passes just what is owed: it fails what isn't held, or has another digest
abbrev pub SaysOfHeld : List Held → Ask → List ℕ → Checked → Type 0
SaysOfHeld pieces ask expect checks.Pass = (bytes : List ℕ) × (asked_of pieces ask ≡ Some bytes) × (sha256 (range_of ask bytes) ≡ expect)
SaysOfHeld pieces ask expect checks.Fail =
    (asked_of pieces ask ≡ None) ⊎ ((bytes : List ℕ) × (asked_of pieces ask ≡ Some bytes) × (sha256 (range_of ask bytes) ≡ expect → ⊥))
SaysOfHeld pieces ask expect checks.Silent = Unit {0}
