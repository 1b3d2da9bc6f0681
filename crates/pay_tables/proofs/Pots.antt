-- A statement behind all others: its pot is what is held from then on.
use Rattle.std.proofs.Common.{◌≡◌, ℕ, suc, ◌<◌, Bool, true, false, List, [], ◌∷◌, ◌++◌, length, Some, refl, sym, ap, ◌∙◌, arith}
use Rattle.std.specs.Prelude.{if◌then◌else◌, ◌==◌, ◌&&◌, nat_lt, filter}
use Rattle.std.specs.Option.{option_map}
use Rattle.std.proofs.lemmas.Bool.Decides.{nat_tests}
use Rattle.std.proofs.lemmas.List.{append-nil}
use Rattle.std.proofs.lemmas.List.Elements.{filter-append}
use Rattle.std.proofs.lemmas.Option.{slice_get-map}
use Rattle.sat_base.specs.declared.ids.NodeId.{NodeId}
use Rattle.rows.specs.Rows.{Each}
use Rattle.rows.specs.Slots.{with_row}
use Rattle.node_registry.specs.declared.node.Node.{Node}
use Rattle.tally_payout.specs.declared.amounts.Statement.{Statement}
use Rattle.tally_payout.specs.Statement.{last_pot}
use Rattle.month_pay.specs.Keeping.{of_node}
use Rattle.month_pay.specs.Ledger.{Ledger, pot_before}
use Rattle.month_pay.proofs.Conserved.{last_pot-behind}
use Rattle.month_sums.specs.Closing.{GoByPots}
use Rattle.pay_tables.specs.declared.balance.Balance.{Balance}
use Rattle.pay_tables.specs.Amounts.{balance_rank, amount_at, amounts_of, GoByStatements}
use Rattle.pay_tables.proofs.Balanced.{amount-put}

-- a row above all others goes behind them
pub put-behind : {R : Type 0} (rank : R → ℕ) (rows : List R) (row : R) → Each (λ other. rank other < rank row) rows → with_row rank rows row ≡ rows ++ row ∷ []
put-behind rank [] row below = refl
put-behind rank (first ∷ rest) row below = grind (arith, nat_tests, below.0, put-behind rank rest row below.1)

-- the pots go by the statements and one more behind them
pub pots-behind : (pots : List Balance) (rows : List Statement) (s : Statement) (new : Balance) → new.node ≡ s.node → new.amount ≡ s.pot → GoByStatements pots rows → GoByStatements (with_row balance_rank pots new) (rows ++ s ∷ [])
pots-behind pots rows s new whose is go_by node =
    amount-put pots new node
    ∙ (ap (λ (n : NodeId). if n.0 == node.0 then new.amount else amount_at pots node) whose
    ∙ go (s.node.0 == node.0) (filter-append (λ (x : Statement). x.node.0 == node.0) rows (s ∷ [])))
  where
    go : (mine : Bool) → of_node node (rows ++ s ∷ []) ≡ of_node node rows ++ (if mine then s ∷ [] else []) → (if mine then new.amount else amount_at pots node) ≡ last_pot 0 (of_node node (rows ++ s ∷ []))
    go true split = is ∙ sym (ap (last_pot 0) split ∙ last_pot-behind 0 (of_node node rows) s)
    go false split = go_by node ∙ sym (ap (last_pot 0) (split ∙ append-nil (of_node node rows)))

-- where all statements are of earlier months, those of a node are all its own
all-earlier : (node : NodeId) (month : ℕ) (rows : List Statement) → Each (λ s. s.month.0 < month) rows → filter (λ s. (s.node.0 == node.0) && nat_lt s.month.0 month) rows ≡ of_node node rows
all-earlier node month [] each = refl
all-earlier node month (s ∷ rows) each = go (s.node.0 == node.0) (nat_lt s.month.0 month) (grind (arith, nat_tests, each.0)) (all-earlier node month rows each.1)
  where
    go : (a b : Bool) → b ≡ true → filter (λ x. (x.node.0 == node.0) && nat_lt x.month.0 month) rows ≡ of_node node rows
        → (if a && b then s ∷ filter (λ x. (x.node.0 == node.0) && nat_lt x.month.0 month) rows else filter (λ x. (x.node.0 == node.0) && nat_lt x.month.0 month) rows) ≡ (if a then s ∷ of_node node rows else of_node node rows)
    go true true e rest = ap (λ (xs : List Statement). s ∷ xs) rest
    go true false e rest = cc
    go false b e rest = rest

length-amounts : (pots : List Balance) (nodes : List Node) → length (amounts_of pots nodes) ≡ length nodes
length-amounts pots [] = refl
length-amounts pots (node ∷ nodes) = ap suc (length-amounts pots nodes)

pub pots-ledger : (l : Ledger) (pots : List Balance) → GoByStatements pots l.statements → Each (λ s. s.month.0 < l.next) l.statements → GoByPots l (amounts_of pots l.nodes)
unfolding pot_before
pots-ledger l pots go_by earlier = record {
  long = length-amounts pots l.nodes;
  each = λ i node at.
      slice_get-map (λ (n : Node). amount_at pots n.id) l.nodes i
      ∙ (ap (option_map (λ (n : Node). amount_at pots n.id)) at
      ∙ ap Some (go_by node.id ∙ sym (ap (last_pot 0) (all-earlier node.id l.next l.statements earlier))));
}
