-- A node that leaves is picked, and a piece of it: it is to be made afresh elsewhere. Where none is left that could be, the node has left.
use Rattle.std.specs.Prelude.{ℕ, ◌/◌, ◌==◌, ◌&&◌, Bool, true, false, nat_le, List, [], ◌∷◌, filter, find, drop, slice_index, Option}
use Rattle.std.specs.List.{list_any}
use Rattle.sat_base.specs.declared.ids.NodeId.{NodeId}
use Rattle.sat_base.specs.declared.records.At.{At}
use Rattle.node_registry.specs.declared.node.Node.{Node}
use Rattle.node_registry.specs.declared.node.Status.{Status}
use Rattle.node_registry.specs.declared.node.Status.TheVariants.{Active, Disqualified, Exiting, Exited}
use Rattle.segment_core.specs.Record.{SegmentRecord}
use Rattle.repair_core.specs.declared.plan.ExitPlan.{ExitPlan}
use Rattle.machine_calls.specs.declared.change.RecChange.TheVariants as changes
use Rattle.machine_calls.specs.declared.reply.Reply.TheVariants as replies
use Rattle.machine_calls.specs.declared.refusal.Refusal.TheVariants as refusals
use Rattle.machine_calls.specs.declared.refusal.TableName.TheVariants as names
use Rattle.machine_step.specs.Tables.{Tables}
use Rattle.machine_step.specs.Outcome.{Outcome, accepted, unless, with_record, if_found}
use Rattle.machine_step.specs.Places.{picks_of, place_at, places_of}
use Rattle.machine_step.specs.Containment.{is_live}
use Rattle.machine_step.specs.Health.{healthy_of, healthy_count, picked, first_of}
use Rattle.machine_step.specs.Plans.{timed, drawn, has_no_plan}
use Rattle.machine_step.specs.Calls.PlanRepair.{terms_beside, repair_of}

abbrev pub is_exiting : Status → Bool
is_exiting Active = false
is_exiting Disqualified = false
is_exiting Exiting = true
is_exiting Exited = false

abbrev pub exiting_nodes : Tables → List Node
exiting_nodes t = filter (λ node. is_exiting node.status) t.nodes

abbrev pub lies_on : NodeId → At → Bool
lies_on node piece = piece.node.0 == node.0

-- a live segment with a piece at the node, that can be rebuilt
abbrev pub is_movable : Tables → NodeId → SegmentRecord → Bool
is_movable t node segment = is_live segment && (list_any (lies_on node) segment.pieces && nat_le t.setup.k (healthy_count t segment))

-- no piece is left that could be moved
abbrev pub node_exited : Tables → ℕ → Node → Outcome
node_exited t time node =
    accepted (timed t.marks time) (changes.Node (record node { status = Exited }) ∷ changes.Left (record { node = node.id; at = time }) ∷ []) (replies.Exited node.id)

-- a piece of the node's index at a pick
abbrev pub target_at : At → Node → At
target_at leaving pick = record { index = leaving.index; node = pick.id }

abbrev pub exit_planned : Tables → ℕ → ExitPlan → At → Outcome
exit_planned t time plan target =
    accepted (drawn t.marks time) (changes.ExitPlan plan ∷ []) (replies.ExitPlanned plan (places_of t.nodes plan.plan.sources) (place_at t.nodes target))

-- the pick, if a subnet is eligible
abbrev pub exit_to : Tables → ℕ → SegmentRecord → List At → At → Option Node → Outcome
exit_to t time segment sources leaving pick =
    with_record pick (refusals.Few 0) (λ node.
    let target = target_at leaving node in
    exit_planned t time (record { leaving = leaving; plan = repair_of t time segment sources (target ∷ []) }) target)

-- where the leaving piece goes
abbrev pub exit_from : Tables → ℕ → List ℕ → SegmentRecord → List At → At → Outcome
exit_from t time words segment sources leaving =
    unless (has_no_plan t.marks) (refusals.TableFull names.Numbers)
    (exit_to t time segment sources leaving (first_of (picks_of (terms_beside t sources segment.len words) 1 (t.setup.fresh / 100))))

-- a piece of a live segment lies on the node
abbrev pub exit_segment : Tables → ℕ → List ℕ → Node → SegmentRecord → Outcome
exit_segment t time words node segment =
    if_found (find (lies_on node.id) segment.pieces) (node_exited t time node) (exit_from t time words segment (healthy_of t segment))

abbrev pub plan_exit_of : Tables → ℕ → List ℕ → Node → Outcome
plan_exit_of t time words node =
    if_found (first_of (filter (is_movable t node.id) t.segments)) (node_exited t time node) (exit_segment t time words node)

-- the first word picks the node, the others the target
abbrev pub plan_exit : Tables → ℕ → List ℕ → Outcome
plan_exit t time words =
    with_record (picked (exiting_nodes t) (slice_index words 0)) refusals.NothingToExit (plan_exit_of t time (drop 1 words))
