-- What contracts see of the index.
use Rattle.std.specs.Prelude.{◌≡◌, ℕ, ◌<◌, ◌≤◌, ◌^◌, Bool, true, false, List, ◌==◌, Some, None}
use Rattle.std.specs.List.{list_any}
use Rattle.sat_base.specs.declared.ids.NodeId.{NodeId}
use Rattle.segment_core.specs.Record.{SegmentRecord}
use Rattle.segment_index.specs.declared.health.Limits.{Limits}
use Rattle.segment_index.specs.Pairs.{pair_rank}
use Rattle.segment_index.specs.Segments.{segment_at, is_live}
use Rattle.segment_index.specs.Keys.{is_key, repair_key, live_pieces, has_piece}

-- the room that was made
pub record Room : Type 0 where
  -- the ids of the segments for which there is some
  pub segments : List ℕ
  -- for how many more live segments
  pub live : ℕ
  -- the ranks of the pairs of node and id, and of healthy pieces and id
  pub by_node : List ℕ
  pub by_need : List ℕ
  -- for how many more nodes that stop serving
  pub lost : ℕ

pub record Indexed : Type 0 where
  -- the segments, by id
  pub rows : List SegmentRecord
  pub limits : Limits
  -- the nodes that no longer serve: those whose pieces are counted as lost, and those that are still to be counted
  pub gone : List NodeId
  pub pending : List NodeId
  pub room : Room

abbrev pub has_room : List ℕ → ℕ → Bool
has_room slots rank = list_any (λ slot. slot == rank) slots

-- there is room for all that putting the segment takes, while no more nodes are counted
pub record IsPlaced (t : Indexed) (segment : SegmentRecord) : Type 0 where
  pub low : segment.id.0 < 2 ^ 64
  pub row : has_room t.room.segments segment.id.0 ≡ true
  pub live : is_live segment ≡ true → 1 ≤ t.room.live
  pub nodes : (node : ℕ) → has_piece node (live_pieces (Some segment)) ≡ true
      → has_room t.room.by_node (pair_rank (record { high = node; low = segment.id.0 })) ≡ true
  pub need : (healthy : ℕ) → is_key (repair_key t.limits t.gone (Some segment)) healthy ≡ true
      → has_room t.room.by_need (pair_rank (record { high = healthy; low = segment.id.0 })) ≡ true

-- there is no room for the segment beside what stands in the tables
pub record IsReleased (t : Indexed) (segment : SegmentRecord) : Type 0 where
  pub row : segment_at t.rows segment.id.0 ≡ None → has_room t.room.segments segment.id.0 ≡ false
  pub nodes : (node : ℕ) → has_piece node (live_pieces (Some segment)) ≡ true → has_piece node (live_pieces (segment_at t.rows segment.id.0)) ≡ false
      → has_room t.room.by_node (pair_rank (record { high = node; low = segment.id.0 })) ≡ false
  pub need : (healthy : ℕ) → is_key (repair_key t.limits t.gone (Some segment)) healthy ≡ true
      → is_key (repair_key t.limits t.gone (segment_at t.rows segment.id.0)) healthy ≡ false
      → has_room t.room.by_need (pair_rank (record { high = healthy; low = segment.id.0 })) ≡ false

-- no room that wasn't there
pub record HasNoMoreRoom (old new : Room) : Type 0 where
  pub segments : (id : ℕ) → has_room old.segments id ≡ false → has_room new.segments id ≡ false
  pub by_node : (rank : ℕ) → has_room old.by_node rank ≡ false → has_room new.by_node rank ≡ false
  pub by_need : (rank : ℕ) → has_room old.by_need rank ≡ false → has_room new.by_need rank ≡ false
