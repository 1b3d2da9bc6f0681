-- How plans end.
use Rattle.std.specs.Prelude.{◌≡◌, ◌≢◌, ◌⊎◌, ◌↔◌, ℕ, ◌+◌, ◌-◌, ◌<◌, ◌≤◌, ◌||◌, min, Bool, true, false, List, length, Some, Option, slice_get}
use Rattle.std.specs.List.{list_all}
use Rattle.segment_core.specs.Record.{SegmentRecord}
use Rattle.audit_core.specs.declared.verdict.Judged.{Judged}
use Rattle.repair_core.specs.declared.plan.RepairPlan.{RepairPlan}
use Rattle.repair_core.specs.declared.outcome.Mended.{Mended}
use Rattle.repair_core.specs.declared.outcome.RepairOutcome.TheVariants as repairs
use Rattle.machine_calls.specs.declared.call.Call.{Call}
use Rattle.machine_calls.specs.declared.call.Call.TheVariants as calls
use Rattle.machine_calls.specs.declared.task.Task.TheVariants as tasks
use Rattle.machine_calls.specs.declared.reply.Reply.{Reply}
use Rattle.machine_calls.specs.declared.reply.Reply.TheVariants as replies
use Rattle.machine_step.specs.Tables.{Tables, segment_at}
use Rattle.machine_step.specs.Containment.{has_piece}
use Rattle.machine_step.specs.Health.{are_among}
use Rattle.machine_step.specs.Plans.{version_of}
use Rattle.machine_step.specs.Calls.PlanRepair.{has_index, terms_beside}
use Rattle.placement.specs.Eligible.{subnet_count}
use Rattle.machine_step.specs.Mending.{kept_sources, placed_targets}
use Rattle.machine_history.specs.History.{Said}
use Rattle.machine_plans.specs.Opened.{opened_audit, opened_repair, at_place}

-- the calls that end a plan
abbrev pub is_end : Call → Bool
is_end (calls.Own now (tasks.EndAudit judged)) = true
is_end (calls.Own now (tasks.EndRecheck plan checked)) = true
is_end (calls.Own now (tasks.EndRepair outcome)) = true
is_end (calls.Own now (tasks.EndExit outcome)) = true
is_end _ = false

abbrev pub is_audit_ended : Reply → Bool
is_audit_ended (replies.AuditEnded clear blamed missing contained answered) = true
is_audit_ended _ = false

abbrev pub is_recheck_ended : Reply → Bool
is_recheck_ended (replies.RecheckEnded checked tries) = true
is_recheck_ended _ = false

abbrev pub is_repair_ended : Reply → Bool
is_repair_ended (replies.RepairEnded version) = true
is_repair_ended _ = false

-- a planned repair has a target for each place that is wanted, or for each subnet where fewer are eligible, and at least one
pub record HasItsTargets (t : Tables) (words : List ℕ) (plan : RepairPlan) : Type 0 where
  pub number : length plan.targets ≡ min (t.setup.o - length plan.sources) (subnet_count (terms_beside t plan.sources plan.len words))
  pub some : 1 ≤ length plan.targets

-- ---- superseded

-- an end is answered as superseded exactly where its segment has another version than the planned one, and shows both; a segment that is gone has version 0
abbrev pub IsSupersededBy : Tables → ℕ → ℕ → Reply → Type 0
IsSupersededBy t segment planned reply =
    (reply ≡ replies.Superseded planned (version_of (segment_at t.segments segment))) ↔ (version_of (segment_at t.segments segment) ≢ planned)

-- ---- the pieces from a plan to its end

-- the segment of a number is there at two moments, and is the same, in this version
pub record IsSameSegment (first last : Tables) (id version : ℕ) : Type 0 where
  pub segment : SegmentRecord
  pub at_first : segment_at first.segments id ≡ Some segment
  pub at_last : segment_at last.segments id ≡ Some segment
  pub in_version : segment.version ≡ version

-- the asked pieces are those of the audit's segment, in the planned version
pub record AsksItsPieces (t : Tables) (judged : Judged) : Type 0 where
  pub segment : SegmentRecord
  pub at : segment_at t.segments judged.plan.segment.0 ≡ Some segment
  pub in_version : segment.version ≡ judged.plan.version
  pub asked : are_among segment.pieces judged.plan.asked ≡ true

-- from its plan to its end an audit's segment was the same, and the asked pieces are its own
pub record IsAudited (planned ended : Tables) (judged : Judged) : Type 0 where
  pub same : IsSameSegment planned ended judged.plan.segment.0 judged.plan.version
  pub asked : are_among same.segment.pieces judged.plan.asked ≡ true

-- the audit that ends at place j was planned at an earlier place, and its segment was the same there
pub record WasAudited (t : Tables) (h : List Said) (j : ℕ) (judged : Judged) : Type 0 where
  pub place : ℕ
  pub earlier : place < j
  pub said : Said
  pub there : slice_get h place ≡ Some said
  pub answer : opened_audit said.reply ≡ Some judged.plan
  pub audited : IsAudited (at_place t h place) (at_place t h j) judged

-- what a repair makes of its segment: the next version, whose pieces are sources that were neither altered nor missing, and placed targets, at least k. Each placed target is among them, and each such source, but where a target has its index
pub record IsMended (t next : Tables) (mended : Mended) : Type 0 where
  pub segment : SegmentRecord
  pub at : segment_at t.segments mended.plan.segment.0 ≡ Some segment
  pub planned : segment.version ≡ mended.plan.version
  pub sources : are_among segment.pieces mended.plan.sources ≡ true
  pub after : SegmentRecord
  pub at_next : segment_at next.segments mended.plan.segment.0 ≡ Some after
  pub version : after.version ≡ mended.plan.version + 1
  pub enough : t.setup.k ≤ length after.pieces
  pub each : list_all (λ piece. has_piece (kept_sources mended) piece || has_piece (placed_targets mended) piece) after.pieces ≡ true
  pub placed : are_among after.pieces (placed_targets mended) ≡ true
  pub kept : list_all (λ source. has_piece after.pieces source || has_index (placed_targets mended) source.index) (kept_sources mended) ≡ true

-- from its plan to its end a repair's segment was the same, and then it was mended
pub record IsRepaired (planned ended next : Tables) (mended : Mended) : Type 0 where
  pub same : IsSameSegment planned ended mended.plan.segment.0 mended.plan.version
  pub made : IsMended ended next mended

-- a call that ends a repair, or the move of a piece
abbrev pub EndsAs : (ℕ → Call) → Call → Type 0
EndsAs end call = (now : ℕ) × (call ≡ end now)

abbrev pub repair_end : Mended → ℕ → Call
repair_end mended now = calls.Own now (tasks.EndRepair (repairs.Mended mended))

abbrev pub move_end : Mended → ℕ → Call
move_end mended now = calls.Own now (tasks.EndExit (repairs.Mended mended))

-- the repair that ends at place j was planned at an earlier place, its segment was the same there, and is mended behind the end
pub record WasRepaired (opened : Reply → Option RepairPlan) (t : Tables) (h : List Said) (j : ℕ) (mended : Mended) : Type 0 where
  pub place : ℕ
  pub earlier : place < j
  pub said : Said
  pub there : slice_get h place ≡ Some said
  pub answer : opened said.reply ≡ Some mended.plan
  pub repaired : IsRepaired (at_place t h place) (at_place t h j) (at_place t h (j + 1)) mended
