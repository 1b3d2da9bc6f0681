-- Where ids count up, the node of an id stands at its place.
use Rattle.std.proofs.Common.{◌≡◌, ℕ, zero, suc, ◌+◌, ◌<◌, List, [], ◌∷◌, ◌++◌, length, Option, Some, None, IsSome, IfSome, Bor, option_copied, refl, sym, ap, arith}
use Rattle.std.specs.Prelude.{slice_get, slice_set}
use Rattle.sat_base.specs.declared.ids.NodeId.{NodeId}
use Rattle.std.proofs.lemmas.Bool.Decides.{nat_tests}
use Rattle.rows.specs.Rows.{row_at, replaced}
use Rattle.node_registry.specs.declared.node.Node.{Node}
use Rattle.rows.proofs.Found.{rank-found}
use Rattle.node_registry.specs.Registry.{node_rank, node_at, CountsFrom}

pub none_below : (nodes : List Node) (k j : ℕ) → CountsFrom k nodes → j < k → row_at node_rank nodes j ≡ None
none_below [] k j counts lt = refl
none_below (node ∷ rest) k j counts lt = grind (arith, nat_tests, counts.0, none_below rest (suc k) j counts.1)

pub at_place : (nodes : List Node) (k i j : ℕ) → CountsFrom k nodes → j ≡ k + i → row_at node_rank nodes j ≡ slice_get nodes i
at_place [] k i j counts e = refl
at_place (node ∷ rest) k zero j counts e = grind (arith, nat_tests, counts.0)
at_place (node ∷ rest) k (suc i) j counts e = grind (arith, nat_tests, counts.0, at_place rest (suc k) i j counts.1)

pub place_in_range : (nodes : List Node) (k j : ℕ) → CountsFrom k nodes → IsSome (row_at node_rank nodes j) → record { from : k < j + 1; to : j < k + length nodes }
place_in_range [] k j counts there = cc
place_in_range (node ∷ rest) k j counts there = grind (arith, nat_tests, counts.0, there, place_in_range rest (suc k) j counts.1)

pub none_replaced : (node : Node) (nodes : List Node) (k : ℕ) → CountsFrom k nodes → node.id.0 < k → replaced node_rank node nodes ≡ nodes
none_replaced node [] k counts lt = refl
none_replaced node (first ∷ rest) k counts lt = grind (arith, nat_tests, counts.0, none_replaced node rest (suc k) counts.1)

pub replaced_at : (node : Node) (nodes : List Node) (k i : ℕ) → CountsFrom k nodes → node.id.0 ≡ k + i → replaced node_rank node nodes ≡ slice_set nodes i node
replaced_at node [] k i counts e = refl
replaced_at node (first ∷ rest) k zero counts e = grind (arith, nat_tests, counts.0, none_replaced node rest (suc k) counts.1)
replaced_at node (first ∷ rest) k (suc i) counts e = grind (arith, nat_tests, counts.0, replaced_at node rest (suc k) i counts.1)

pub counts-replaced : (node : Node) (nodes : List Node) (k : ℕ) → CountsFrom k nodes → CountsFrom k (replaced node_rank node nodes)
counts-replaced node [] k counts = tt
counts-replaced node (first ∷ rest) k counts = grind (arith, nat_tests, counts.0, counts-replaced node rest (suc k) counts.1)

pub counts-pushed : (node : Node) (nodes : List Node) (k : ℕ) → CountsFrom k nodes → node.id.0 ≡ k + length nodes → CountsFrom k (nodes ++ node ∷ [])
counts-pushed node [] k counts e = (omega arith, tt)
counts-pushed node (first ∷ rest) k counts e = (counts.0, counts-pushed node rest (suc k) counts.1 (omega arith))

-- the node that is found has the id
pub own_found : (nodes : List Node) (id : NodeId) (found : Option (Bor Node)) → option_copied found ≡ node_at nodes id → IfSome found (λ node. node.now.id ≡ id)
own_found nodes id None is = tt
own_found nodes id (Some node) is =
    let named : ℕ → NodeId = λ k. record { 0 = k } in
    ap named (rank-found node_rank nodes id.0 node.now (sym is))
