-- How a repair ends, or the move of a piece of a node that leaves, which is one too: a target with the index of a kept source takes its place.
use Rattle.std.specs.Prelude.{ℕ, ◌+◌, ◌==◌, ◌&&◌, Bool, not, if◌then◌else◌, List, ◌∷◌, map, filter, filter_map, fold, Option, None}
use Rattle.sat_base.specs.declared.records.At.{At}
use Rattle.sat_base.specs.declared.records.Key.TheVariants as keys
use Rattle.rows.specs.Slots.{with_row}
use Rattle.node_registry.specs.declared.node.Node.{Node}
use Rattle.node_registry.specs.declared.reputation.Outcome.TheVariants.{Fail}
use Rattle.node_registry.specs.Registry.{node_at}
use Rattle.segment_core.specs.Record.{SegmentRecord}
use Rattle.segment_core.specs.Places.{index_of}
use Rattle.segment_core.specs.Commit.{is_among}
use Rattle.repair_core.specs.declared.plan.RepairPlan.{RepairPlan}
use Rattle.repair_core.specs.declared.outcome.Mended.{Mended}
use Rattle.repair_core.specs.declared.outcome.Unmended.{Unmended}
use Rattle.repair_core.specs.declared.outcome.RepairOutcome.{RepairOutcome}
use Rattle.repair_core.specs.declared.outcome.RepairOutcome.TheVariants as repairs
use Rattle.machine_calls.specs.declared.change.RecChange.TheVariants as changes
use Rattle.machine_calls.specs.declared.reply.Reply.TheVariants as replies
use Rattle.machine_calls.specs.declared.refusal.Refusal.TheVariants as refusals
use Rattle.machine_step.specs.Tables.{Tables, segment_at}
use Rattle.machine_step.specs.Outcome.{Outcome, accepted, unless, if_found}
use Rattle.machine_step.specs.Health.{after_outcome}
use Rattle.machine_step.specs.Plans.{timed, same_repair, is_open, open_number, superseded}

abbrev pub plan_of : RepairOutcome → RepairPlan
plan_of (repairs.Mended mended) = mended.plan
plan_of (repairs.Unmended unmended) = unmended.plan

-- a source that is neither altered nor missing
abbrev pub is_kept : Mended → At → Bool
is_kept mended source = not (is_among mended.blamed source.index) && not (is_among mended.missing source.index)

abbrev pub kept_sources : Mended → List At
kept_sources mended = filter (is_kept mended) mended.plan.sources

abbrev pub placed_targets : Mended → List At
placed_targets mended = filter (λ target. is_among mended.placed target.index) mended.plan.targets

-- pieces with another, in its place by index or in place of the one of its index
abbrev pub with_piece : List At → At → List At
with_piece pieces piece = with_row index_of pieces piece

-- the pieces of the next version
abbrev pub mended_pieces : Mended → List At
mended_pieces mended = fold with_piece (kept_sources mended) (placed_targets mended)

abbrev pub mended_segment : SegmentRecord → Mended → SegmentRecord
mended_segment segment mended = record segment { version = segment.version + 1; pieces = mended_pieces mended }

-- the serving nodes of these sources, each after a fail
abbrev pub failed : List Node → (At → Bool) → List At → List Node
failed nodes has sources = filter_map (λ source. if has source then after_outcome (node_at nodes source.node) Fail else None) sources

-- fresh pieces were made
abbrev pub repair_ended : Tables → ℕ → ℕ → Mended → SegmentRecord → Outcome
repair_ended t time kind mended segment =
    let next = mended_segment segment mended in
    accepted (timed t.marks time)
    (changes.Remove (keys.Plan kind) ∷ changes.Segment next ∷ map changes.Node (failed t.nodes (λ source. not (is_kept mended source)) mended.plan.sources))
    (replies.RepairEnded next.version)

-- nothing was made
abbrev pub unrepaired : Tables → ℕ → ℕ → Unmended → Outcome
unrepaired t time kind unmended =
    accepted (timed t.marks time)
    (changes.Remove (keys.Plan kind) ∷ map changes.Node (failed t.nodes (λ source. is_among unmended.missing source.index) unmended.plan.sources))
    replies.Unrepaired

abbrev pub mending_of : Tables → ℕ → ℕ → RepairOutcome → SegmentRecord → Outcome
mending_of t time kind (repairs.Mended mended) segment = repair_ended t time kind mended segment
mending_of t time kind (repairs.Unmended unmended) segment = unrepaired t time kind unmended

-- the segment, if it is there, beside the planned version
abbrev pub end_mending_at : Tables → ℕ → ℕ → RepairOutcome → Option SegmentRecord → Outcome
end_mending_at t time kind outcome found =
    if_found found (superseded t time kind (plan_of outcome).version 0) (λ segment.
    if segment.version == (plan_of outcome).version then mending_of t time kind outcome segment
    else superseded t time kind (plan_of outcome).version segment.version)

-- the open plan of a kind ends
abbrev pub end_mending : Tables → ℕ → ℕ → Option RepairPlan → RepairOutcome → Outcome
end_mending t time kind opened outcome =
    unless (not (is_open same_repair opened (plan_of outcome))) (refusals.NoPlan (open_number (λ plan. plan.plan) opened))
    (end_mending_at t time kind outcome (segment_at t.segments (plan_of outcome).segment.0))
