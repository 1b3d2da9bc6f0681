-- Changes of a ledger that leave what the closed months were paid by.
use Rattle.std.proofs.Common.{◌≡◌, ℕ, ◌<◌, ◌≤◌, Bool, true, false, List, [], ◌∷◌, ◌++◌, Option, Some, None, is_some, refl, sym, ap, subst, ◌∙◌, arith}
use Rattle.std.specs.Prelude.{if◌then◌else◌, ◌==◌, ◌&&◌, nat_le, filter}
use Rattle.std.proofs.lemmas.List.{append-nil}
use Rattle.std.proofs.lemmas.List.Elements.{filter-append}
use Rattle.std.proofs.lemmas.Bool.Decides.{nat_tests}
use Rattle.sat_base.specs.declared.ids.NodeId.{NodeId}
use Rattle.sat_base.specs.declared.rates.Tariff.{Tariff}
use Rattle.sat_base.specs.Ranks.{tariff_rank}
use Rattle.rows.specs.Rows.{row_at, Each}
use Rattle.rows.specs.Slots.{with_row}
use Rattle.node_registry.specs.declared.node.Node.{Node}
use Rattle.node_registry.specs.Registry.{node_rank, node_at}
use Rattle.settlement.specs.declared.row.SettledRow.{SettledRow}
use Rattle.settlement.specs.Rows.{key}
use Rattle.tally_payout.specs.declared.amounts.Tally.{Tally}
use Rattle.tally_payout.specs.Tariff.{tariff_in}
use Rattle.node_registry.specs.declared.node.Left.{Left}
use Rattle.month_pay.specs.Months.{month_at, month_of_hour}
use Rattle.tally_payout.specs.Ranks.{month_place, statement_rank}
use Rattle.node_registry.specs.Left.{left_rank}
use Rattle.month_pay.specs.Ledger.{Ledger, settled_in, tallied_in, has_joined, has_left}
use Rattle.month_pay.specs.Keeping.{IsSameNode, StaysAs, SamePay}
use Rattle.rows.proofs.Found.{row_at-with_row}
use Rattle.month_pay.proofs.ListFacts.{filter-with_row, each-with_row, any-with_row, each-found}

-- ---- one after another

same_node : (node : Node) → IsSameNode node node
same_node node = record { id = refl; joined = refl; gone = λ h. h }

stays_at : (found : Option Node) (node : Node) → found ≡ Some node → StaysAs node found
stays_at None node h = absurd cc
stays_at (Some x) node h = let same : node ≡ x = cc in subst (λ (y : Node). IsSameNode node y) same (same_node node)

pub same_self : (l : Ledger) → SamePay l l
same_self l = record {
  first = refl;
  next = refl;
  statements = refl;
  settled = λ node month lt. refl;
  tallied = λ node month lt. refl;
  rates = λ month lt. refl;
  left = λ node month lt. refl;
  nodes = λ id node at. stays_at (node_at l.nodes id) node at;
  joins = λ rows month lt h. h;
}

stays-then : (a : Node) (b c : Option Node) → StaysAs a b → ((node : Node) → b ≡ Some node → StaysAs node c) → StaysAs a c
stays-then a None c h so = absurd h
stays-then a (Some b) None h so = so b refl
stays-then a (Some b) (Some c) h so =
    let next = so b refl in
    record { id = next.id ∙ h.id; joined = next.joined ∙ h.joined; gone = λ g. next.gone (h.gone g) }

pub same_then : (a b c : Ledger) → SamePay a b → SamePay b c → SamePay a c
same_then a b c p q = record {
  first = q.first ∙ p.first;
  next = q.next ∙ p.next;
  statements = q.statements ∙ p.statements;
  settled = λ node month lt. q.settled node month (rw p.next lt) ∙ p.settled node month lt;
  tallied = λ node month lt. q.tallied node month (rw p.next lt) ∙ p.tallied node month lt;
  rates = λ month lt. q.rates month (rw p.next lt) ∙ p.rates month lt;
  left = λ node month lt. q.left node month (rw p.next lt) ∙ p.left node month lt;
  nodes = λ id node at. stays-then node (node_at b.nodes id) (node_at c.nodes id) (p.nodes id node at) (λ x at_b. q.nodes id x at_b);
  joins = λ rows month lt h. q.joins rows month (rw p.next lt) (p.joins rows month lt h);
}

-- ---- the rows of one kind

-- a settled order, of a month that isn't closed
pub same_settled : (l : Ledger) (row : SettledRow) → row_at key l.settled (key row) ≡ None → l.next ≤ month_at row.at → SamePay l (record l { settled = with_row key l.settled row })
unfolding settled_in
same_settled l row none late = record {
  first = refl;
  next = refl;
  statements = refl;
  settled = λ node month lt. filter-with_row key (λ r. (r.node.0 == node.0) && (month_at r.at == month)) l.settled row none (grind (arith, nat_tests, late, lt));
  tallied = λ node month lt. refl;
  rates = λ month lt. refl;
  left = λ node month lt. refl;
  nodes = λ id node at. stays_at (node_at l.nodes id) node at;
  joins = λ rows month lt h. h;
}

-- the tallies of an hour, which begins in a month that isn't closed
pub same_tallied : (l : Ledger) (new : List Tally) (hour : ℕ) → Each (λ tally. tally.hour.0 ≡ hour) new → l.next ≤ month_of_hour hour → SamePay l (record l { tallies = l.tallies ++ new })
unfolding tallied_in
same_tallied l new hour each late = record {
  first = refl;
  next = refl;
  statements = refl;
  settled = λ node month lt. refl;
  tallied = λ node month lt. filter-append (λ r. (r.node.0 == node.0) && (month_of_hour r.hour.0 == month)) l.tallies new
      ∙ ap (λ (t : List Tally). filter (λ r. (r.node.0 == node.0) && (month_of_hour r.hour.0 == month)) l.tallies ++ t) (none node month lt new each)
      ∙ append-nil (filter (λ r. (r.node.0 == node.0) && (month_of_hour r.hour.0 == month)) l.tallies);
  rates = λ month lt. refl;
  left = λ node month lt. refl;
  nodes = λ id node at. stays_at (node_at l.nodes id) node at;
  joins = λ rows month lt h. h;
}
  where
    none : (node : NodeId) (month : ℕ) → month < l.next → (xs : List Tally) → Each (λ tally. tally.hour.0 ≡ hour) xs → filter (λ r. (r.node.0 == node.0) && (month_of_hour r.hour.0 == month)) xs ≡ []
    none node month lt [] h = refl
    none node month lt (x ∷ xs) h =
        let here : month_of_hour x.hour.0 ≡ month_of_hour hour = ap month_of_hour h.0 in
        grind (arith, nat_tests, here, late, lt, none node month lt xs h.1)

-- rates from a month on that isn't closed
tariff-late : (rows : List Tariff) (row : Tariff) (month : ℕ) → month < row.from.0 → tariff_in month (with_row tariff_rank rows row) ≡ tariff_in month rows
tariff-late [] row month lt = grind (arith, nat_tests, lt)
tariff-late (first ∷ rest) row month lt = grind (arith, nat_tests, lt, tariff-late rest row month lt)

pub same_rates : (l : Ledger) (row : Tariff) → l.next ≤ row.from.0 → SamePay l (record l { tariffs = with_row tariff_rank l.tariffs row })
same_rates l row late = record {
  first = refl;
  next = refl;
  statements = refl;
  settled = λ node month lt. refl;
  tallied = λ node month lt. refl;
  rates = λ month lt. tariff-late l.tariffs row month (omega arith);
  left = λ node month lt. refl;
  nodes = λ id node at. stays_at (node_at l.nodes id) node at;
  joins = λ rows month lt h. h;
}

-- a node that leaves, in a month that isn't closed
pub same_left : (l : Ledger) (row : Left) → row_at left_rank l.left (left_rank row) ≡ None → l.next ≤ month_at row.at → SamePay l (record l { left = with_row left_rank l.left row })
unfolding has_left
same_left l row none late = record {
  first = refl;
  next = refl;
  statements = refl;
  settled = λ node month lt. refl;
  tallied = λ node month lt. refl;
  rates = λ month lt. refl;
  left = λ node month lt. any-with_row left_rank (λ r. (r.node.0 == node.0) && nat_le (month_at r.at) month) l.left row none (grind (arith, nat_tests, late, lt));
  nodes = λ id node at. stays_at (node_at l.nodes id) node at;
  joins = λ rows month lt h. h;
}

-- a node more, which joins in a month that isn't closed
pub same_joined : (l : Ledger) (node : Node) → node_at l.nodes node.id ≡ None → l.next ≤ month_at node.joined → SamePay l (record l { nodes = with_row node_rank l.nodes node })
unfolding has_joined
same_joined l node none late = record {
  first = refl;
  next = refl;
  statements = refl;
  settled = λ id month lt. refl;
  tallied = λ id month lt. refl;
  rates = λ month lt. refl;
  left = λ id month lt. refl;
  nodes = λ id old at. stays_at (node_at (with_row node_rank l.nodes node) id) old (grind (arith, nat_tests, row_at-with_row node_rank l.nodes node id.0, at, none));
  joins = λ rows month lt h. each-with_row node_rank (λ x. has_joined month x ≡ true → is_some (row_at statement_rank rows (month_place month x.id.0)) ≡ true) l.nodes node h (λ joined. absurd (no month lt joined));
}
  where
    no : (month : ℕ) → month < l.next → nat_le (month_at node.joined) month ≡ true → ⊥
    no month lt joined = grind (arith, nat_tests, late, lt, joined)

-- another state of a node, where others may have changed before
pub same_put : (l : Ledger) (nodes : List Node) (node old : Node) → SamePay l (record l { nodes = nodes }) → node_at l.nodes node.id ≡ Some old → IsSameNode old node → SamePay l (record l { nodes = with_row node_rank nodes node })
unfolding has_joined
same_put l nodes node old before at same = record {
  first = refl;
  next = refl;
  statements = refl;
  settled = λ id month lt. refl;
  tallied = λ id month lt. refl;
  rates = λ month lt. refl;
  left = λ id month lt. refl;
  nodes = λ id x at_x. subst (λ (o : Option Node). StaysAs x o) (sym (row_at-with_row node_rank nodes node id.0)) (go id x at_x (node.id.0 == id.0) refl);
  joins = λ rows month lt h. each-with_row node_rank (λ x. has_joined month x ≡ true → is_some (row_at statement_rank rows (month_place month x.id.0)) ≡ true) nodes node (before.joins rows month lt h)
      (λ joined. ap (λ (k : ℕ). is_some (row_at statement_rank rows (month_place month k))) (ap (λ (n : NodeId). n.0) same.id) ∙ each-found node_rank (λ x. has_joined month x ≡ true → is_some (row_at statement_rank rows (month_place month x.id.0)) ≡ true) l.nodes node.id.0 old h at (rw same.joined at joined));
}
  where
    go : (id : NodeId) (x : Node) → node_at l.nodes id ≡ Some x → (b : Bool) → (node.id.0 == id.0) ≡ b → StaysAs x (if b then Some node else node_at nodes id)
    go id x at_x true e =
        let equal : node.id.0 ≡ id.0 = grind (arith, nat_tests, e) in
        let there : node_at l.nodes id ≡ Some old = ap (λ (k : ℕ). row_at node_rank l.nodes k) (sym equal) ∙ at in
        let is : old ≡ x = cc in
        subst (λ (y : Node). IsSameNode y node) is same
    go id x at_x false e = before.nodes id x at_x

pub same_set : (l : Ledger) (node old : Node) → node_at l.nodes node.id ≡ Some old → IsSameNode old node → SamePay l (record l { nodes = with_row node_rank l.nodes node })
same_set l node old at same = same_put l l.nodes node old (same_self l) at same
