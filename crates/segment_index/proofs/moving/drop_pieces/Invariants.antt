use Rattle.std.proofs.Common.{◌≡◌, ℕ, ◌^◌, ◌<◌, true, ◌&&◌, not, take}
use Rattle.std.specs.Prelude.{◌==◌}
use Rattle.segment_index.specs.Indexed.{has_room}
use Rattle.segment_index.specs.Keys.{has_piece}
use Rattle.segment_index.specs.Pairs.{has, pair_rank}
use Rattle.segment_index.proofs.moving.drop_pieces.Given as goal

abbrev pub invariant-loop-piece : goal.invariant-loop-piece
invariant-loop-piece l = record {
  pairs : (node other : ℕ) → has l.by_node.rows (record { high = node; low = other })
      ≡ (not ((other == l.id) && (has_piece node (take l.piece-index l.pieces) && not (has_piece node l.stay))) && has l.fn.by_node.rows (record { high = node; low = other }));
  room : (node other : ℕ) → other < 2 ^ 64 → (other ≡ l.id → has_piece node l.stay ≡ true)
      → has_room l.fn.by_node.slots (pair_rank (record { high = node; low = other })) ≡ true
      → has_room l.by_node.slots (pair_rank (record { high = node; low = other })) ≡ true;
}
