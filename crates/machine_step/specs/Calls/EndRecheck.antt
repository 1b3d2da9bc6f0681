-- A silent node was asked again.
use Rattle.std.specs.Prelude.{ℕ, ◌+◌, ◌==◌, ◌&&◌, Bool, not, if◌then◌else◌, List, [], ◌∷◌, ◌++◌, map, Option, Some, None, option_to_list}
use Rattle.std.specs.Str.{bytes_eq}
use Rattle.sat_base.specs.declared.limits.TheConstants as limits
use Rattle.sat_base.specs.declared.kinds.TheConstants as kinds
use Rattle.sat_base.specs.declared.records.Containment.{Containment}
use Rattle.sat_base.specs.declared.records.Key.TheVariants as keys
use Rattle.node_registry.specs.declared.reputation.Outcome.{Outcome as Mark}
use Rattle.node_registry.specs.declared.reputation.Outcome.TheVariants.{Pass, Fail}
use Rattle.node_registry.specs.Registry.{node_at, contained_at}
use Rattle.audit_core.specs.declared.rechecking.RecheckPlan.{RecheckPlan}
use Rattle.audit_core.specs.declared.rechecking.Checked.{Checked}
use Rattle.audit_core.specs.declared.rechecking.Checked.TheVariants as checks
use Rattle.machine_calls.specs.declared.change.RecChange.{RecChange}
use Rattle.machine_calls.specs.declared.change.RecChange.TheVariants as changes
use Rattle.machine_calls.specs.declared.reply.Reply.TheVariants as replies
use Rattle.machine_calls.specs.declared.refusal.Refusal.TheVariants as refusals
use Rattle.machine_step.specs.Tables.{Tables}
use Rattle.machine_step.specs.Outcome.{Outcome, accepted, unless, if_found}
use Rattle.machine_step.specs.Health.{after_outcome}
use Rattle.machine_step.specs.Plans.{timed, same_recheck, is_open, open_number}
use Rattle.machine_step.specs.Containment.{release}

-- the containment is the one of the plan
abbrev pub is_as_planned : RecheckPlan → Containment → Bool
is_as_planned plan containment =
    (containment.segment.0 == plan.segment.0) && ((containment.index == plan.index) && ((containment.stripe == plan.stripe) && bytes_eq containment.expect plan.expect))

-- a row, if it passes a test
abbrev pub only : {R : Type 0} → (R → Bool) → Option R → Option R
only test None = None
only test (Some row) = if test row then Some row else None

-- the containment, where it still stands as planned
abbrev pub still_owed : Tables → RecheckPlan → Option Containment
still_owed t plan = only (is_as_planned plan) (contained_at t.containments plan.node)

-- the plan is closed, beside other changes
abbrev pub recheck_closed : Tables → ℕ → List RecChange → Checked → ℕ → Outcome
recheck_closed t time puts checked tries = accepted (timed t.marks time) (changes.Remove (keys.Plan kinds.RECHECK_PLAN) ∷ puts) (replies.RecheckEnded checked tries)

-- the node gets its outcome, and is released
abbrev pub settled_as : Tables → Containment → Mark → List RecChange
settled_as t containment mark = map changes.Node (option_to_list (after_outcome (node_at t.nodes containment.node) mark)) ++ release containment ∷ []

-- it was silent, for the last time or not
abbrev pub silent_again : Tables → Containment → ℕ → List RecChange
silent_again t containment tries =
    if tries == limits.TRIES then settled_as t containment Fail else changes.Containment (record containment { tries = tries }) ∷ []

abbrev pub recheck_ended : Tables → ℕ → Checked → Containment → Outcome
recheck_ended t time checks.Pass containment = recheck_closed t time (settled_as t containment Pass) checks.Pass containment.tries
recheck_ended t time checks.Fail containment = recheck_closed t time (settled_as t containment Fail) checks.Fail containment.tries
recheck_ended t time checks.Silent containment = recheck_closed t time (silent_again t containment (containment.tries + 1)) checks.Silent (containment.tries + 1)

-- the containment is gone
abbrev pub recheck_void : Tables → ℕ → Outcome
recheck_void t time = accepted (timed t.marks time) (changes.Remove (keys.Plan kinds.RECHECK_PLAN) ∷ []) replies.Gone

abbrev pub end_recheck : Tables → ℕ → RecheckPlan → Checked → Outcome
end_recheck t time plan checked =
    unless (not (is_open same_recheck t.recheck plan)) (refusals.NoPlan (open_number (λ plan. plan.plan) t.recheck))
    (if_found (still_owed t plan) (recheck_void t time) (recheck_ended t time checked))
