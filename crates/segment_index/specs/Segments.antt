-- Which segments are live, which need repair, and which have a piece at a node.
use Rattle.std.specs.Prelude.{ℕ, Bool, not, ◌&&◌, ◌==◌, nat_lt, nat_le, if◌then◌else◌, List, [], ◌∷◌, length, filter, find, Option, Some, None}
use Rattle.std.specs.List.{list_any}
use Rattle.sat_base.specs.declared.ids.NodeId.{NodeId}
use Rattle.sat_base.specs.declared.records.At.{At}
use Rattle.rows.specs.Rows.{row_at}
use Rattle.segment_core.specs.Record.{SegmentRecord, segment_rank}
use Rattle.segment_index.specs.declared.health.Limits.{Limits}

abbrev pub segment_at : List SegmentRecord → ℕ → Option SegmentRecord
segment_at segments id = row_at segment_rank segments id

-- from version 1 on a segment is live
abbrev pub is_live : SegmentRecord → Bool
is_live segment = not (segment.version == 0)

abbrev pub live_segments : List SegmentRecord → List SegmentRecord
live_segments segments = filter is_live segments

-- ---- pieces

abbrev pub is_gone : List NodeId → NodeId → Bool
is_gone gone node = list_any (λ one. one.0 == node.0) gone

-- the healthy pieces: those at nodes that are not gone
abbrev pub healthy_of : List NodeId → List At → List At
healthy_of gone pieces = filter (λ piece. not (is_gone gone piece.node)) pieces

abbrev pub healthy_count : List NodeId → SegmentRecord → ℕ
healthy_count gone segment = length (healthy_of gone segment.pieces)

abbrev pub lies_on : NodeId → At → Bool
lies_on node piece = piece.node.0 == node.0

-- ---- repair

-- a live segment needs repair where its healthy pieces are enough to rebuild it, and fewer than they should be
abbrev pub needs_repair : Limits → List NodeId → SegmentRecord → Bool
needs_repair limits gone segment = is_live segment && (nat_le limits.k (healthy_count gone segment) && nat_lt (healthy_count gone segment) limits.m)

-- the first row with the least number
abbrev pub lesser : {R : Type 0} → (R → ℕ) → R → Option R → R
lesser number row None = row
lesser number row (Some other) = if nat_le (number row) (number other) then row else other

abbrev pub least_by : {R : Type 0} → (R → ℕ) → List R → Option R
least_by number [] = None
least_by number (row ∷ rest) = Some (lesser number row (least_by number rest))

-- the segment to repair: of those that need it the one with the fewest healthy pieces, and of these the least id
abbrev pub to_repair : Limits → List NodeId → List SegmentRecord → Option SegmentRecord
to_repair limits gone segments = least_by (healthy_count gone) (filter (needs_repair limits gone) segments)

-- ---- nodes

-- a live segment has a piece at the node
abbrev pub lies_at : NodeId → SegmentRecord → Bool
lies_at node segment = is_live segment && list_any (lies_on node) segment.pieces

-- the first segment with a piece at the node, and the first above an id
abbrev pub first_at : NodeId → List SegmentRecord → Option SegmentRecord
first_at node segments = find (lies_at node) segments

abbrev pub next_at : NodeId → ℕ → List SegmentRecord → Option SegmentRecord
next_at node above segments = find (λ segment. nat_lt above segment.id.0 && lies_at node segment) segments
