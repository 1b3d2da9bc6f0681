use Rattle.std.proofs.Common.{◌≡◌, ℕ, true, take}
use Rattle.segment_index.specs.Indexed.{has_room}
use Rattle.segment_index.specs.Keys.{has_piece}
use Rattle.segment_index.specs.Pairs.{pair_rank}
use Rattle.segment_index.proofs.moving.place_pieces.Given as goal

abbrev pub invariant-loop-piece : goal.invariant-loop-piece
invariant-loop-piece l = record {
  pairs : l.by_node.rows ≡ l.fn.by_node.rows;
  placed : (node : ℕ) → has_piece node (take l.piece-index l.pieces) ≡ true → has_room l.by_node.slots (pair_rank (record { high = node; low = l.id })) ≡ true;
  others : (rank : ℕ) → has_room l.fn.by_node.slots rank ≡ true → has_room l.by_node.slots rank ≡ true;
}
