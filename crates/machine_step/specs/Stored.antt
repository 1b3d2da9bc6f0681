-- The bytes that a node stores.
use Rattle.std.specs.Prelude.{ℕ, Bool, ◌&&◌, if◌then◌else◌, List, filter}
use Rattle.std.specs.List.{sum_by, list_any}
use Rattle.sat_base.specs.declared.ids.NodeId.{NodeId}
use Rattle.node_registry.specs.declared.node.Node.{Node}
use Rattle.segment_core.specs.Record.{SegmentRecord}
use Rattle.machine_step.specs.Tables.{Setup}
use Rattle.machine_step.specs.Containment.{is_live}
use Rattle.machine_step.specs.PlanRules.{is_exited}
use Rattle.machine_step.specs.Calls.Begin.{piece_len_of}
use Rattle.machine_step.specs.Calls.PlanExit.{lies_on}

-- the bytes of each piece of a segment
abbrev pub piece_bytes : Setup → SegmentRecord → ℕ
piece_bytes setup segment = piece_len_of setup segment.len

-- a live segment with a piece at the node
abbrev pub lies_at : NodeId → SegmentRecord → Bool
lies_at node segment = is_live segment && list_any (lies_on node) segment.pieces

-- nothing for one that has left; else the bytes of the pieces of live segments that lie at it
unfoldable pub stored_bytes : Setup → List SegmentRecord → Node → ℕ
stored_bytes setup segments node =
    if is_exited node.status then 0 else sum_by (piece_bytes setup) (filter (lies_at node.id) segments)

-- what a segment adds to the bytes that a node stores
abbrev pub share_of : Setup → NodeId → SegmentRecord → ℕ
share_of setup node segment = if lies_at node segment then piece_bytes setup segment else 0
