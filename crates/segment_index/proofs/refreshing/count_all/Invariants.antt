use Rattle.std.proofs.Common.{ℕ, ◌-◌, ◌^◌, ◌<◌, ◌≤◌, ◌∷◌}
use Rattle.segment_index.specs.Counting.{HasKey, IsVisited, IsReady}
use Rattle.segment_index.specs.Keys.{nodes_of}
use Rattle.segment_index.proofs.refreshing.count_all.Given as goal

abbrev pub invariant-loop-next : goal.invariant-loop-next
invariant-loop-next l = record {
  low : l.id < 2 ^ 64;
  here : IsVisited l.by_node.rows l.node l.id;
  counted : (healthy id : ℕ) → id < l.id → HasKey l.limits (l.node ∷ nodes_of l.counted.rows) l.segments.rows l.by_need.rows healthy id;
  rest : (healthy id : ℕ) → l.id ≤ id → HasKey l.limits (nodes_of l.counted.rows) l.segments.rows l.by_need.rows healthy id;
  ready : (id : ℕ) → id < 2 ^ 64 → l.id ≤ id → IsVisited l.by_node.rows l.node id → IsReady l.limits (l.node ∷ nodes_of l.counted.rows) l.segments.rows l.by_need.slots id;
}

abbrev pub decreases-loop-next : goal.decreases-loop-next
decreases-loop-next l = 2 ^ 64 - l.id
