-- The statements that are made of what is kept are those of the ledger.
use Rattle.std.proofs.Common.{◌≡◌, ℕ, suc, ◌+◌, ◌-◌, ◌≤◌, Bool, true, false, List, [], ◌∷◌, ◌++◌, length, drop, Some, refl, sym, ap, ◌∙◌}
use Rattle.std.proofs.lemmas.List.{append-nil, drop_all}
use Rattle.std.specs.Prelude.{if◌then◌else◌, map, filter, slice_get}
use Rattle.sat_base.specs.declared.rates.Rates.{Rates}
use Rattle.node_registry.specs.declared.node.Node.{Node}
use Rattle.tally_payout.specs.declared.amounts.Sums.{Sums}
use Rattle.tally_payout.specs.declared.amounts.Statement.{Statement}
use Rattle.tally_payout.specs.Statement.{statement_of}
use Rattle.node_registry.specs.declared.node.Left.{Left}
use Rattle.month_pay.specs.Months.{month_at}
use Rattle.node_registry.specs.Standing.{is_disqualified}
use Rattle.month_pay.specs.Ledger.{Ledger, has_joined, has_left, stated, closing, month_rows, pot_before, sums_of}
use Rattle.rows.specs.Rows.{Each}
use Rattle.month_sums.specs.declared.sums.OpenSums.{OpenSums}
use Rattle.month_sums.specs.Open.{sums_at}
use Rattle.month_sums.specs.Closing.{closed_by, rows_by, GoByLedger}

closing-by : (l : Ledger) (node : Node) (pot : ℕ) (sums : List OpenSums) (left : List Left) (rates : Rates) (pots : List ℕ) → GoByLedger l pots sums left rates → pot ≡ pot_before l.statements node.id l.next → sums_at sums l.next node.id ≡ sums_of l.settled l.tallies node.id l.next
    → closed_by l.next node pot sums left rates ≡ closing l l.next node
unfolding stated
closing-by l node pot sums left rates pots go pot_is sums_are =
    ap (λ (s : Sums). statement_of node.id (record { 0 = l.next }) (l.next + 1 - month_at node.joined) (is_disqualified node.status) (has_left left node.id l.next) s pot rates) sums_are
    ∙ (ap (λ (p : ℕ). statement_of node.id (record { 0 = l.next }) (l.next + 1 - month_at node.joined) (is_disqualified node.status) (has_left left node.id l.next) (sums_of l.settled l.tallies node.id l.next) p rates) pot_is
    ∙ (ap (λ (x : List Left). statement_of node.id (record { 0 = l.next }) (l.next + 1 - month_at node.joined) (is_disqualified node.status) (has_left x node.id l.next) (sums_of l.settled l.tallies node.id l.next) (pot_before l.statements node.id l.next) rates) go.left_is
    ∙ ap (λ (r : Rates). statement_of node.id (record { 0 = l.next }) (l.next + 1 - month_at node.joined) (is_disqualified node.status) (has_left l.left node.id l.next) (sums_of l.settled l.tallies node.id l.next) (pot_before l.statements node.id l.next) r) go.rates_are))

module _ (l : Ledger) (sums : List OpenSums) (left : List Left) (rates : Rates) (all : List ℕ) (go_by : GoByLedger l all sums left rates) where
  rows-by : (nodes : List Node) (pots : List ℕ) → Each (λ node. sums_at sums l.next node.id ≡ sums_of l.settled l.tallies node.id l.next) nodes → ((i : ℕ) (node : Node) → slice_get nodes i ≡ Some node → slice_get pots i ≡ Some (pot_before l.statements node.id l.next))
      → rows_by l.next sums left rates nodes pots ≡ map (closing l l.next) (filter (has_joined l.next) nodes)
  rows-by [] pots each has = refl
  rows-by (node ∷ nodes) [] each has = absurd (gone (has 0 node refl))
    where
      none : List ℕ
      none = []

      gone : {x : ℕ} → slice_get none 0 ≡ Some x → ⊥
      gone h = cc
  rows-by (node ∷ nodes) (pot ∷ pots) each has =
      let here : pot ≡ pot_before l.statements node.id l.next = same pot _ (has 0 node refl) in
      let rest = rows-by nodes pots each.1 (λ i x at. has (suc i) x at) in
      go (has_joined l.next node) (closing-by l node pot sums left rates all go_by here each.0) rest
    where
      same : (x y : ℕ) → Some x ≡ Some y → x ≡ y
      same x y h = cc

      go : (b : Bool) → closed_by l.next node pot sums left rates ≡ closing l l.next node → rows_by l.next sums left rates nodes pots ≡ map (closing l l.next) (filter (has_joined l.next) nodes)
          → (if b then closed_by l.next node pot sums left rates ∷ [] else []) ++ rows_by l.next sums left rates nodes pots ≡ map (closing l l.next) (if b then node ∷ filter (has_joined l.next) nodes else filter (has_joined l.next) nodes)
      go true one rest = ap (λ (s : Statement). s ∷ rows_by l.next sums left rates nodes pots) one ∙ ap (λ (ss : List Statement). closing l l.next node ∷ ss) rest
      go false one rest = rest

pub month-rows-by : (l : Ledger) (nodes : List Node) (month : ℕ) (sums : List OpenSums) (left : List Left) (rates : Rates) (pots : List ℕ) → l.next ≡ month → l.nodes ≡ nodes → GoByLedger l pots sums left rates → rows_by month sums left rates nodes pots ≡ month_rows l month
unfolding month_rows
month-rows-by l nodes month sums left rates pots is_next are go_by =
    ap (λ (m : ℕ). rows_by m sums left rates nodes pots) (sym is_next) ∙ (ap (λ (xs : List Node). rows_by l.next sums left rates xs pots) (sym are) ∙ (rows-by l sums left rates pots go_by l.nodes pots go_by.sums_are go_by.pots_are
    ∙ ap (λ (m : ℕ). map (closing l m) (filter (has_joined m) l.nodes)) is_next))

-- no node is left
pub rows-end : (month : ℕ) (sums : List OpenSums) (left : List Left) (rates : Rates) (done : List Statement) (nodes : List Node) (pots : List ℕ) (i : ℕ) (all : List Statement) → length nodes ≤ i → done ++ rows_by month sums left rates (drop i nodes) (drop i pots) ≡ all → done ≡ all
rows-end month sums left rates done nodes pots i all le h =
    let none : drop i nodes ≡ [] = drop_all i nodes le in
    sym (ap (λ (xs : List Node). done ++ rows_by month sums left rates xs (drop i pots)) none ∙ append-nil done) ∙ h
