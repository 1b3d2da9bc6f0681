-- What the end of a repair needs: the pieces of the next version stand by index.
use Rattle.std.specs.Prelude.{◌≡◌, ◌<◌, ◌^◌, Option, Some}
use Rattle.segment_core.specs.Places.{IsByIndex}
use Rattle.segment_core.specs.Record.{SegmentRecord}
use Rattle.repair_core.specs.declared.plan.RepairPlan.{RepairPlan}
use Rattle.repair_core.specs.declared.outcome.RepairOutcome.{RepairOutcome}
use Rattle.repair_core.specs.declared.outcome.RepairOutcome.TheVariants as repairs
use Rattle.machine_step.specs.Mending.{mended_pieces}
use Rattle.machine_step.specs.Tables.{Tables, segment_at}

-- where the plan is open, and the segment has the planned version
abbrev pub CanEnd : Tables → Option RepairPlan → RepairOutcome → Type 0
CanEnd t opened (repairs.Mended mended) =
    opened ≡ Some mended.plan → (found : SegmentRecord) → segment_at t.segments mended.plan.segment.0 ≡ Some found → found.version ≡ mended.plan.version
    → IsByIndex (mended_pieces mended) × (found.version < 2 ^ 63)
CanEnd t opened (repairs.Unmended unmended) = Unit {0}
