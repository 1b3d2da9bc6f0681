use Rattle.std.proofs.Common.{◌≡◌, ℕ, ◌^◌, ◌<◌, true, false, take}
use Rattle.segment_index.specs.Indexed.{has_room}
use Rattle.segment_index.specs.Keys.{has_piece}
use Rattle.segment_index.specs.Pairs.{has, pair_rank}
use Rattle.segment_index.proofs.moving.release_pieces.Given as goal

abbrev pub invariant-loop-piece : goal.invariant-loop-piece
invariant-loop-piece l = record {
  pairs : l.by_node.rows ≡ l.fn.by_node.rows;
  room : (node other : ℕ) → other < 2 ^ 64 → (other ≡ l.id → ⊥)
      → has_room l.fn.by_node.slots (pair_rank (record { high = node; low = other })) ≡ true
      → has_room l.by_node.slots (pair_rank (record { high = node; low = other })) ≡ true;
  gone : (node : ℕ) → has_piece node (take l.piece-index l.pieces) ≡ true → has l.fn.by_node.rows (record { high = node; low = l.id }) ≡ false
      → has_room l.by_node.slots (pair_rank (record { high = node; low = l.id })) ≡ false;
  fewer : (rank : ℕ) → has_room l.fn.by_node.slots rank ≡ false → has_room l.by_node.slots rank ≡ false;
}
