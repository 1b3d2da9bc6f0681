-- What changes are to nodes, segments and containments.
use Rattle.std.specs.Prelude.{ℕ, Bool, true, false, not, ◌==◌, if◌then◌else◌, List, Option, Some, None}
use Rattle.sat_base.specs.declared.ids.NodeId.{NodeId}
use Rattle.sat_base.specs.declared.ids.SegId.{SegId}
use Rattle.sat_base.specs.declared.records.Containment.{Containment}
use Rattle.sat_base.specs.declared.records.Key.TheVariants as keys
use Rattle.sat_base.specs.Ranks.{containment_rank}
use Rattle.rows.specs.Rows.{without}
use Rattle.rows.specs.Slots.{with_row}
use Rattle.node_registry.specs.declared.node.Node.{Node}
use Rattle.node_registry.specs.Standing.{is_serving}
use Rattle.segment_core.specs.Record.{SegmentRecord}
use Rattle.machine_calls.specs.declared.change.RecChange.{RecChange}
use Rattle.machine_calls.specs.declared.change.RecChange.TheVariants as changes
use Rattle.machine_step.specs.Containment.{is_live}
use Rattle.machine_step.specs.Tables.{segment_at}

-- a segment is there, and is live
abbrev pub is_some_live : Option SegmentRecord → Bool
is_some_live None = false
is_some_live (Some segment) = is_live segment

abbrev pub lives : List SegmentRecord → SegId → Bool
lives segments id = is_some_live (segment_at segments id.0)

-- a change may leave a containment without a node that serves or without its piece: a node that doesn't serve, a segment that was live before the step, or another containment
abbrev pub unsettles : List SegmentRecord → RecChange → Bool
unsettles segments (changes.Node node) = not (is_serving node.status)
unsettles segments (changes.Segment segment) = lives segments segment.id
unsettles segments (changes.Containment containment) = true
unsettles segments (changes.Remove (keys.Segment id)) = lives segments id
unsettles segments _ = false

-- the node of an id after a change, where this is the one before it
abbrev pub node_by : RecChange → NodeId → Option Node → Option Node
node_by (changes.Node node) id before = if node.id.0 == id.0 then Some node else before
node_by _ id before = before

-- the segment
abbrev pub segment_by : RecChange → ℕ → Option SegmentRecord → Option SegmentRecord
segment_by (changes.Segment segment) id before = if segment.id.0 == id then Some segment else before
segment_by (changes.Remove (keys.Segment gone)) id before = if gone.0 == id then None else before
segment_by _ id before = before

-- and the containments
abbrev pub containments_by : RecChange → List Containment → List Containment
containments_by (changes.Containment containment) before = with_row containment_rank before containment
containments_by (changes.Remove (keys.Containment node)) before = without containment_rank before node.0
containments_by _ before = before
