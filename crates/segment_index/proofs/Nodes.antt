-- Which nodes are gone, after a look-up, a node more and a node less.
use Rattle.std.proofs.Common.{◌≡◌, ℕ, ◌<◌, ◌≤◌, Bool, true, not, ◌&&◌, ◌||◌, List, [], ◌∷◌, length, is_some, refl, subst, arith}
use Rattle.std.specs.Prelude.{◌==◌}
use Rattle.std.specs.List.{list_any}
use Rattle.std.proofs.lemmas.Bool.Decides.{nat_tests}
use Rattle.sat_base.specs.declared.ids.NodeId.{NodeId}
use Rattle.rows.specs.Rows.{row_at, added, without}
use Rattle.segment_index.specs.declared.health.GoneNode.{GoneNode}
use Rattle.segment_index.specs.Segments.{is_gone}
use Rattle.segment_index.specs.Keys.{gone_rank, nodes_of}

-- a look-up finds those that are
pub gone_found : (rows : List GoneNode) (node : ℕ) → is_some (row_at gone_rank rows node) ≡ list_any (λ one. one.0 == node) (nodes_of rows)
gone_found [] node = refl
gone_found (first ∷ rest) node = grind (arith, nat_tests, gone_found rest node)

pub gone_more : (rows : List GoneNode) (one : GoneNode) (node : NodeId) → is_gone (nodes_of (added gone_rank one rows)) node ≡ ((one.node.0 == node.0) || is_gone (nodes_of rows) node)
gone_more [] one node = refl
gone_more (first ∷ rest) one node = grind (arith, nat_tests, gone_more rest one node)

pub gone_less : (rows : List GoneNode) (k : ℕ) (node : NodeId) → is_gone (nodes_of (without gone_rank rows k)) node ≡ (not (k == node.0) && is_gone (nodes_of rows) node)
gone_less [] k node = grind (arith, nat_tests)
gone_less (first ∷ rest) k node = grind (arith, nat_tests, gone_less rest k node)

-- it goes by the node's number alone
pub gone_same : (gone : List NodeId) (node other : NodeId) → is_gone gone node ≡ true → node.0 ≡ other.0 → is_gone gone other ≡ true
gone_same gone node other h e = subst (λ (n : ℕ). list_any (λ one. one.0 == n) gone ≡ true) e h

-- one that is gone is no new one
pub gone_again : (gone : List NodeId) (node other : NodeId) → is_gone gone node ≡ true → is_gone gone other ≡ ((node.0 == other.0) || is_gone gone other)
gone_again gone node other h = grind (arith, nat_tests, gone_same gone node other h)

fewer_or_same : (rows : List GoneNode) (k : ℕ) → length (nodes_of (without gone_rank rows k)) ≤ length (nodes_of rows)
fewer_or_same [] k = omega arith
fewer_or_same (first ∷ rest) k = grind (arith, nat_tests, fewer_or_same rest k)

pub fewer : (rows : List GoneNode) (node : NodeId) → is_gone (nodes_of rows) node ≡ true → length (nodes_of (without gone_rank rows node.0)) < length (nodes_of rows)
fewer [] node h = absurd cc
fewer (first ∷ rest) node h = grind (arith, nat_tests, h, fewer_or_same rest node.0, fewer rest node)

-- a node that goes from those to be counted to those that are
pub counted_now : (node other : NodeId) (gone pending : List NodeId) (now left : Bool) → is_gone pending node ≡ true
    → now ≡ ((node.0 == other.0) || is_gone gone other) → left ≡ (not (node.0 == other.0) && is_gone pending other) → (now || left) ≡ (is_gone gone other || is_gone pending other)
counted_now node other gone pending now left h n l = grind (arith, nat_tests, n, l, gone_same pending node other h)
