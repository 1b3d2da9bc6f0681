use Rattle.std.proofs.Common.{◌≡◌, ℕ, ◌&&◌, ◌||◌, take}
use Rattle.std.specs.Prelude.{◌==◌}
use Rattle.segment_index.specs.Keys.{has_piece}
use Rattle.segment_index.specs.Pairs.{has}
use Rattle.segment_index.proofs.moving.add_pieces.Given as goal

abbrev pub invariant-loop-piece : goal.invariant-loop-piece
invariant-loop-piece l = record {
  pairs : (node other : ℕ) → has l.by_node.rows (record { high = node; low = other })
      ≡ (((other == l.id) && has_piece node (take l.piece-index l.pieces)) || has l.fn.by_node.rows (record { high = node; low = other }));
  room : l.by_node.slots ≡ l.fn.by_node.slots;
}
