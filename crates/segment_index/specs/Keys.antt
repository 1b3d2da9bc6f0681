-- By which pairs a segment is found, and what is kept of all of them.
use Rattle.std.specs.Prelude.{◌≡◌, ℕ, ◌^◌, ◌<◌, Bool, false, ◌==◌, if◌then◌else◌, List, [], ◌∷◌, map, Option, Some, None}
use Rattle.std.specs.List.{list_any}
use Rattle.sat_base.specs.declared.ids.NodeId.{NodeId}
use Rattle.sat_base.specs.declared.records.At.{At}
use Rattle.rows.specs.Rows.{IsRising}
use Rattle.segment_core.specs.Record.{SegmentRecord, segment_rank}
use Rattle.segment_index.specs.declared.health.Limits.{Limits}
use Rattle.segment_index.specs.declared.health.GoneNode.{GoneNode}
use Rattle.segment_index.specs.declared.live.LiveId.{LiveId}
use Rattle.segment_index.specs.declared.pairs.Pair.{Pair}
use Rattle.segment_index.specs.Pairs.{has}
use Rattle.segment_index.specs.Segments.{segment_at, is_live, live_segments, needs_repair, healthy_count}

-- ---- one segment

-- the pieces of a live segment
abbrev pub live_pieces : Option SegmentRecord → List At
live_pieces None = []
live_pieces (Some segment) = if is_live segment then segment.pieces else []

abbrev pub has_piece : ℕ → List At → Bool
has_piece node pieces = list_any (λ piece. piece.node.0 == node) pieces

-- the number of healthy pieces of a segment that needs repair
abbrev pub repair_key : Limits → List NodeId → Option SegmentRecord → Option ℕ
repair_key limits gone None = None
repair_key limits gone (Some segment) = if needs_repair limits gone segment then Some (healthy_count gone segment) else None

abbrev pub is_key : Option ℕ → ℕ → Bool
is_key None healthy = false
is_key (Some key) healthy = key == healthy

abbrev pub live_id : SegmentRecord → LiveId
live_id segment = record { id = segment.id.0 }

-- ---- all segments

abbrev pub live_ids : List SegmentRecord → List LiveId
live_ids segments = map live_id (live_segments segments)

abbrev pub live_rank : LiveId → ℕ
live_rank live = live.id

abbrev pub AreIds : List SegmentRecord → Type 0
AreIds [] = Unit {0}
AreIds (segment ∷ rest) = (segment.id.0 < 2 ^ 64) × AreIds rest

-- the pairs of node and id
abbrev pub IsByNode : List SegmentRecord → List Pair → Type 0
IsByNode segments pairs = (node id : ℕ) → has pairs (record { high = node; low = id }) ≡ has_piece node (live_pieces (segment_at segments id))

-- the pairs of healthy pieces and id
abbrev pub IsByNeed : Limits → List NodeId → List SegmentRecord → List Pair → Type 0
IsByNeed limits gone segments pairs = (healthy id : ℕ) → has pairs (record { high = healthy; low = id }) ≡ is_key (repair_key limits gone (segment_at segments id)) healthy

pub record IsIndexed (limits : Limits) (gone : List NodeId) (segments : List SegmentRecord) (ids : List LiveId) (nodes needs : List Pair) : Type 0 where
  pub rising : IsRising segment_rank segments
  pub low : AreIds segments
  pub live : ids ≡ live_ids segments
  pub by_node : IsByNode segments nodes
  pub by_need : IsByNeed limits gone segments needs

-- ---- nodes that no longer serve

abbrev pub gone_rank : GoneNode → ℕ
gone_rank gone = gone.node.0

abbrev pub nodes_of : List GoneNode → List NodeId
nodes_of gone = map (λ one. one.node) gone

-- these nodes, and one more
abbrev pub with_node : Option NodeId → List NodeId → List NodeId
with_node None gone = gone
with_node (Some node) gone = node ∷ gone
