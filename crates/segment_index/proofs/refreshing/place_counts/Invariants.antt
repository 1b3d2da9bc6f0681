use Rattle.std.proofs.Common.{◌≡◌, ℕ, ◌-◌, ◌^◌, ◌<◌, true, ◌∷◌}
use Rattle.segment_index.specs.Counting.{IsVisited, IsReady}
use Rattle.segment_index.specs.Indexed.{has_room}
use Rattle.segment_index.specs.Keys.{nodes_of}
use Rattle.segment_index.proofs.refreshing.place_counts.Given as goal

abbrev pub invariant-loop-next : goal.invariant-loop-next
invariant-loop-next l = record {
  pairs : l.by_need.rows ≡ l.fn.by_need.rows;
  placed : (id : ℕ) → id < l.id → IsVisited l.by_node.rows l.node id → IsReady l.limits (l.node ∷ nodes_of l.counted.rows) l.segments.rows l.by_need.slots id;
  others : (rank : ℕ) → has_room l.fn.by_need.slots rank ≡ true → has_room l.by_need.slots rank ≡ true;
}

abbrev pub decreases-loop-next : goal.decreases-loop-next
decreases-loop-next l = 2 ^ 64 - l.id
