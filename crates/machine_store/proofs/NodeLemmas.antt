-- Where a node goes in a table whose ids count up, and a settled row that is new.
use Rattle.std.proofs.Common.{◌≡◌, ℕ, suc, ◌+◌, ◌<◌, ◌≤◌, Bool, true, false, List, [], ◌∷◌, ◌++◌, length, Some, None, IsSome, refl, arith, rules}
use Rattle.std.specs.Prelude.{if◌then◌else◌, ◌==◌}
use Rattle.std.proofs.lemmas.Bool.Decides.{nat_tests}
use Rattle.rows.specs.Rows.{row_at, added, replaced}
use Rattle.rows.specs.Slots.{with_row}
use Rattle.node_registry.specs.declared.node.Node.{Node}
use Rattle.node_registry.specs.Registry.{node_rank, CountsFrom}
use Rattle.node_registry.proofs.Numbered.{none_replaced}

pub with_row-there : (node : Node) (rows : List Node) (k : ℕ) → CountsFrom k rows → k ≤ node.id.0 → node.id.0 < k + length rows → with_row node_rank rows node ≡ replaced node_rank node rows
with_row-there node [] k counts low high = absurd (omega arith)
with_row-there node (first ∷ rest) k counts low high =
    grind (arith, nat_tests, counts.0, low, high, none_replaced node rest (suc k) counts.1, with_row-there node rest (suc k) counts.1)

pub with_row-next : (node : Node) (rows : List Node) (k : ℕ) → CountsFrom k rows → node.id.0 ≡ k + length rows → with_row node_rank rows node ≡ rows ++ node ∷ []
with_row-next node [] k counts is = refl
with_row-next node (first ∷ rest) k counts is = grind (arith, nat_tests, counts.0, is, with_row-next node rest (suc k) counts.1)

some_here : (id k : ℕ) (first : Node) (rest : List Node) → (b : Bool) → (first.id.0 == id) ≡ b → first.id.0 ≡ k → k ≤ id → (k < id → (node : Node) × (row_at node_rank rest id ≡ Some node))
    → (node : Node) × ((if b then Some first else row_at node_rank rest id) ≡ Some node)
some_here id k first rest true is at low later = (first, refl)
some_here id k first rest false is at low later = later (grind (arith, nat_tests, is, at, low))

some_there : (id : ℕ) (rows : List Node) (k : ℕ) → CountsFrom k rows → k ≤ id → id < k + length rows → (node : Node) × (row_at node_rank rows id ≡ Some node)
some_there id [] k counts low high = absurd (omega arith)
some_there id (first ∷ rest) k counts low high = some_here id k first rest (first.id.0 == id) refl counts.0 low (λ lt. some_there id rest (suc k) counts.1 (omega arith) (omega arith))

pub there : (id : ℕ) (rows : List Node) (k : ℕ) → CountsFrom k rows → k ≤ id → id < k + length rows → IsSome (row_at node_rank rows id)
there id rows k counts low high = let some = some_there id rows k counts low high in rw some.1 (search rules)

-- a row whose rank has none is added
pub with_row-added : {R : Type 0} (rank : R → ℕ) (row : R) (rows : List R) → row_at rank rows (rank row) ≡ None → with_row rank rows row ≡ added rank row rows
with_row-added rank row [] none = refl
with_row-added rank row (first ∷ rest) none = grind (arith, nat_tests, none, with_row-added rank row rest)
