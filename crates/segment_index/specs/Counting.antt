-- A node is being counted among those that no longer serve.
use Rattle.std.specs.Prelude.{◌≡◌, ℕ, true, ◌⊎◌, List}
use Rattle.sat_base.specs.declared.ids.NodeId.{NodeId}
use Rattle.segment_core.specs.Record.{SegmentRecord}
use Rattle.segment_index.specs.declared.health.Limits.{Limits}
use Rattle.segment_index.specs.declared.pairs.Pair.{Pair}
use Rattle.segment_index.specs.Pairs.{pair_rank, has}
use Rattle.segment_index.specs.Segments.{segment_at}
use Rattle.segment_index.specs.Indexed.{has_room}
use Rattle.segment_index.specs.Keys.{is_key, repair_key}

-- the walk over a node's segments comes to these ids
abbrev pub IsVisited : List Pair → NodeId → ℕ → Type 0
IsVisited by_node node id = (id ≡ 0) ⊎ (has by_node (record { high = node.0; low = id }) ≡ true)

-- there is room for the pair of healthy pieces and this id, if there is to be one
abbrev pub IsReady : Limits → List NodeId → List SegmentRecord → List ℕ → ℕ → Type 0
IsReady limits gone segments slots id = (healthy : ℕ) → is_key (repair_key limits gone (segment_at segments id)) healthy ≡ true → has_room slots (pair_rank (record { high = healthy; low = id })) ≡ true

-- the pair is there if that is the number of healthy pieces
abbrev pub HasKey : Limits → List NodeId → List SegmentRecord → List Pair → ℕ → ℕ → Type 0
HasKey limits gone segments pairs healthy id = has pairs (record { high = healthy; low = id }) ≡ is_key (repair_key limits gone (segment_at segments id)) healthy
