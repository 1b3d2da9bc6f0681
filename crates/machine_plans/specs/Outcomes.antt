-- Which outcomes nodes get where a plan ends, and what becomes of their reputation.
use Rattle.std.specs.Prelude.{◌≡◌, ◌↔◌, ℕ, ◌==◌, Bool, false, not, if◌then◌else◌, List, [], ◌∷◌, ◌++◌, map, filter, filter_map, Option, Some, None}
use Rattle.sat_base.specs.declared.limits.TheConstants as limits
use Rattle.sat_base.specs.declared.ids.NodeId.{NodeId}
use Rattle.sat_base.specs.declared.records.At.{At}
use Rattle.node_registry.specs.declared.node.Node.{Node}
use Rattle.node_registry.specs.declared.node.Status.TheVariants.{Disqualified}
use Rattle.node_registry.specs.declared.reputation.Outcome.{Outcome as Mark}
use Rattle.node_registry.specs.declared.reputation.Outcome.TheVariants.{Pass, Fail}
use Rattle.segment_core.specs.Commit.{is_among}
use Rattle.audit_core.specs.declared.rechecking.Checked.{Checked}
use Rattle.audit_core.specs.declared.rechecking.Checked.TheVariants as checks
use Rattle.repair_core.specs.declared.outcome.RepairOutcome.{RepairOutcome}
use Rattle.repair_core.specs.declared.outcome.RepairOutcome.TheVariants as repairs
use Rattle.machine_calls.specs.declared.call.Call.{Call}
use Rattle.machine_calls.specs.declared.call.Call.TheVariants as calls
use Rattle.machine_calls.specs.declared.task.Task.TheVariants as tasks
use Rattle.machine_calls.specs.declared.reply.Reply.{Reply}
use Rattle.machine_calls.specs.declared.reply.Reply.TheVariants as replies
use Rattle.machine_calls.specs.Replies.{is_lost}
use Rattle.node_registry.specs.Registry.{node_at}
use Rattle.machine_step.specs.Tables.{Tables}
use Rattle.machine_step.specs.Containment.{serves}
use Rattle.machine_step.specs.Mending.{is_kept}
use Rattle.machine_step.specs.Calls.EndAudit.{mark_of}
use Rattle.machine_step.specs.Calls.PlanExit.{lies_on}
use Rattle.machine_history.specs.History.{Said, taken}

-- ---- by one call

-- a recheck's outcome: the third silence is a fail, and an earlier one is none
abbrev pub checked_marks : Checked → ℕ → List Mark
checked_marks checks.Pass tries = Pass ∷ []
checked_marks checks.Fail tries = Fail ∷ []
checked_marks checks.Silent tries = if tries == limits.TRIES then Fail ∷ [] else []

-- a fail for each of these places that is on the node
abbrev pub fails_on : NodeId → (At → Bool) → List At → List Mark
fails_on id fails places = map (λ _. Fail) (filter fails (filter (lies_on id) places))

-- a repair's: a fail for each altered or missing source, and where nothing was made for each missing one
abbrev pub mended_marks : NodeId → RepairOutcome → Reply → List Mark
mended_marks id (repairs.Mended mended) (replies.RepairEnded version) = fails_on id (λ source. not (is_kept mended source)) mended.plan.sources
mended_marks id (repairs.Unmended unmended) replies.Unrepaired = fails_on id (λ source. is_among unmended.missing source.index) unmended.plan.sources
mended_marks id _ _ = []

-- the outcomes that a call brings a node, by its answer. Of an audit: what it says of each asked piece that is on the node
abbrev pub marks_in : NodeId → Call → Reply → List Mark
marks_in id (calls.Own now (tasks.EndAudit judged)) (replies.AuditEnded clear blamed missing contained answered) = filter_map (λ piece. mark_of judged piece.index) (filter (lies_on id) judged.plan.asked)
marks_in id (calls.Own now (tasks.EndRecheck plan checked)) (replies.RecheckEnded again tries) = if plan.node.0 == id.0 then checked_marks checked tries else []
marks_in id (calls.Own now (tasks.EndRepair outcome)) reply = mended_marks id outcome reply
marks_in id (calls.Own now (tasks.EndExit outcome)) reply = mended_marks id outcome reply
marks_in id _ _ = []

-- ---- by a history

-- a node gets outcomes only while it serves, and none from a step that was lost
abbrev pub marks_of_said : Tables → NodeId → Said → List Mark
marks_of_said t id said = if is_lost said.reply then [] else if serves (node_at t.nodes id) then marks_in id said.call said.reply else []

-- the outcomes that a history brings a node
abbrev pub marks_of : Tables → NodeId → List Said → List Mark
marks_of t id [] = []
marks_of t id (said ∷ rest) = marks_of_said t id said ++ marks_of (taken t said) id rest

-- two states of a node have the same reputation: the weights, the number of passes, and whether it is disqualified
pub record IsRatedAs (one other : Node) : Type 0 where
  pub alpha : other.alpha ≡ one.alpha
  pub beta : other.beta ≡ one.beta
  pub passes : other.passes ≡ one.passes
  pub disqualified : (other.status ≡ Disqualified) ↔ (one.status ≡ Disqualified)
