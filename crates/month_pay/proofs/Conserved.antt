-- What was paid, held back and returned is what was earned.
use Rattle.std.proofs.Common.{◌≡◌, ℕ, ◌+◌, ◌-◌, ◌<◌, ◌≤◌, Bool, true, false, List, [], ◌∷◌, ◌++◌, Option, Some, None, refl, sym, ap, subst, ◌∙◌, append_assoc, arith}
use Rattle.std.specs.Prelude.{if◌then◌else◌, ◌==◌, ◌&&◌, nat_lt, filter}
use Rattle.std.specs.List.{sum_by}
use Rattle.std.proofs.lemmas.List.{append-nil}
use Rattle.std.proofs.lemmas.List.Elements.{filter-append}
use Rattle.std.proofs.lemmas.List.Sums.{sum_by-cons}
use Rattle.std.proofs.lemmas.Bool.Decides.{nat_tests}
use Rattle.std.proofs.lemmas.Bool.{and_parts}
use Rattle.sat_base.specs.declared.ids.NodeId.{NodeId}
use Rattle.rows.specs.Rows.{AllAbove, IsRising, Each}
use Rattle.node_registry.specs.declared.node.Node.{Node}
use Rattle.node_registry.specs.Registry.{node_rank, node_at}
use Rattle.tally_payout.specs.declared.amounts.Sums.{Sums}
use Rattle.tally_payout.specs.declared.amounts.Parts.{Parts}
use Rattle.tally_payout.specs.declared.amounts.Statement.{Statement}
use Rattle.tally_payout.specs.Tariff.{parts_of, tariff_in, rates_of}
use Rattle.tally_payout.specs.Statement.{statement_of, last_pot}
use Rattle.tally_payout.proofs.StatementLemmas.{Balances, statement_of-balances}
use Rattle.month_pay.specs.Months.{month_at}
use Rattle.tally_payout.specs.Ranks.{month_place, statement_rank}
use Rattle.month_pay.specs.Ledger.{Ledger, has_left, sums_of, stated, pot_before}
use Rattle.month_pay.specs.Rule.{same_sums, same_parts, same_statement, follows, is_closed, is_sound_statement}
use Rattle.month_pay.specs.Keeping.{RuleHolds, IsStated, IsWhole, of_node}
use Rattle.rows.proofs.Found.{rank-found}
use Rattle.month_pay.proofs.ListFacts.{each-all}

-- ---- statements that are the same

equal_of : (a b : ℕ) → (a == b) ≡ true → a ≡ b
equal_of a b h = grind (arith, nat_tests, h)

sums-equal : (a b : Sums) → same_sums a b ≡ true → a ≡ b
sums-equal a b h =
    let p = and_parts (a.get == b.get) _ h in
    let q = and_parts (a.audit == b.audit) _ p.1 in
    let r = and_parts (a.repair == b.repair) (a.byte_hours == b.byte_hours) q.1 in
    go _ _ _ _ _ _ _ _ (equal_of _ _ p.0) (equal_of _ _ q.0) (equal_of _ _ r.0) (equal_of _ _ r.1)
  where
    go : (a b c d e f g h : ℕ) → a ≡ e → b ≡ f → c ≡ g → d ≡ h → ◌≡◌ {A = Sums} (record { get = a; audit = b; repair = c; byte_hours = d }) (record { get = e; audit = f; repair = g; byte_hours = h })
    go a b c d e f g h p q r s = cc

parts-equal : (a b : Parts) → same_parts a b ≡ true → a ≡ b
parts-equal a b h =
    let p = and_parts (a.get == b.get) _ h in
    let q = and_parts (a.audit == b.audit) _ p.1 in
    let r = and_parts (a.repair == b.repair) _ q.1 in
    let s = and_parts (a.storage == b.storage) (a.gross == b.gross) r.1 in
    go _ _ _ _ _ _ _ _ _ _ (equal_of _ _ p.0) (equal_of _ _ q.0) (equal_of _ _ r.0) (equal_of _ _ s.0) (equal_of _ _ s.1)
  where
    go : (a b c d i e f g h j : ℕ) → a ≡ e → b ≡ f → c ≡ g → d ≡ h → i ≡ j → ◌≡◌ {A = Parts} (record { get = a; audit = b; repair = c; storage = d; gross = i }) (record { get = e; audit = f; repair = g; storage = h; gross = j })
    go a b c d i e f g h j p q r s t = cc

pub statement-equal : (a b : Statement) → same_statement a b ≡ true → a ≡ b
unfolding same_statement
statement-equal a b h =
    let h1 = and_parts (a.node.0 == b.node.0) _ h in
    let h2 = and_parts (a.month.0 == b.month.0) _ h1.1 in
    let h3 = and_parts (a.age == b.age) _ h2.1 in
    let h4 = and_parts (a.percent == b.percent) _ h3.1 in
    let h5 = and_parts (same_sums a.sums b.sums) _ h4.1 in
    let h6 = and_parts (same_parts a.parts b.parts) _ h5.1 in
    let h7 = and_parts (a.held == b.held) _ h6.1 in
    let h8 = and_parts (a.paid == b.paid) _ h7.1 in
    let h9 = and_parts (a.returned == b.returned) (a.pot == b.pot) h8.1 in
    go a.node.0 b.node.0 a.month.0 b.month.0 a.age b.age a.percent b.percent a.sums b.sums a.parts b.parts a.held b.held a.paid b.paid a.returned b.returned a.pot b.pot
    (equal_of _ _ h1.0) (equal_of _ _ h2.0) (equal_of _ _ h3.0) (equal_of _ _ h4.0) (sums-equal a.sums b.sums h5.0) (parts-equal a.parts b.parts h6.0) (equal_of _ _ h7.0) (equal_of _ _ h8.0) (equal_of _ _ h9.0) (equal_of _ _ h9.1)
  where
    go : (n n' m m' a a' c c' : ℕ) (s s' : Sums) (p p' : Parts) (h h' d d' r r' t t' : ℕ) → n ≡ n' → m ≡ m' → a ≡ a' → c ≡ c' → s ≡ s' → p ≡ p' → h ≡ h' → d ≡ d' → r ≡ r' → t ≡ t'
        → ◌≡◌ {A = Statement} (record { node = record { 0 = n }; month = record { 0 = m }; age = a; percent = c; sums = s; parts = p; held = h; paid = d; returned = r; pot = t })
        (record { node = record { 0 = n' }; month = record { 0 = m' }; age = a'; percent = c'; sums = s'; parts = p'; held = h'; paid = d'; returned = r'; pot = t' })
    go n n' m m' a a' c c' s s' p p' h h' d d' r r' t t' e1 e2 e3 e4 e5 e6 e7 e8 e9 e10 = cc

-- ---- each statement

pub is_stated : (l : Ledger) (s : Statement) → is_sound_statement l s ≡ true → IsStated l s
unfolding follows
is_stated l s sound = go (node_at l.nodes s.node) refl (and_parts (is_closed l s.month.0) (follows l s (node_at l.nodes s.node)) sound).1
  where
    go : (found : Option Node) → node_at l.nodes s.node ≡ found → follows l s found ≡ true → IsStated l s
    go None at h = absurd cc
    go (Some node) at h =
        let first = and_parts _ _ h in
        let second = and_parts _ _ first.1 in
        record { node = node; known = at; states = statement-equal s (stated l s.month.0 node (s.percent == 100)) second.1 }

stated-balances : (l : Ledger) (month : ℕ) (node : Node) (gone : Bool) → Balances (pot_before l.statements node.id month) (stated l month node gone)
unfolding stated
stated-balances l month node gone = statement_of-balances node.id (record { 0 = month }) (month + 1 - month_at node.joined) gone (has_left l.left node.id month) (sums_of l.settled l.tallies node.id month) (pot_before l.statements node.id month) (rates_of (tariff_in month l.tariffs))

pub stated-parts : (l : Ledger) (month : ℕ) (node : Node) (gone : Bool) → (stated l month node gone).parts ≡ parts_of (rates_of (tariff_in month l.tariffs)) (sums_of l.settled l.tallies node.id month)
unfolding stated statement_of
stated-parts l month node gone = refl

pub same-id : (a b : NodeId) → a.0 ≡ b.0 → a ≡ b
same-id a b h = go a.0 b.0 h
  where
    go : (n m : ℕ) → n ≡ m → ◌≡◌ {A = NodeId} (record { 0 = n }) (record { 0 = m })
    go n m e = cc

pub whose : (l : Ledger) (s : Statement) (h : IsStated l s) → h.node.id ≡ s.node
whose l s h = same-id h.node.id s.node (rank-found node_rank l.nodes s.node.0 h.node h.known)

pub balanced : (l : Ledger) (s : Statement) → IsStated l s → Balances (pot_before l.statements s.node s.month.0) s
balanced l s h =
    let b = stated-balances l s.month.0 h.node (s.percent == 100) in
    subst (λ (id : NodeId). Balances (pot_before l.statements id s.month.0) s) (whose l s h) (subst (λ (x : Statement). Balances (pot_before l.statements h.node.id s.month.0) x) (sym h.states) b)

pub is_whole : (l : Ledger) (s : Statement) → is_sound_statement l s ≡ true → IsWhole l s
is_whole l s sound =
    let h = is_stated l s sound in
    record {
      gross = (balanced l s h).gross;
      tariff = ap (λ (x : Statement). x.parts) h.states ∙ (stated-parts l s.month.0 h.node (s.percent == 100) ∙ ap (λ (id : NodeId). parts_of (rates_of (tariff_in s.month.0 l.tariffs)) (sums_of l.settled l.tallies id s.month.0)) (whose l s h));
    }

-- ---- all of a node

month-below : (node m n : ℕ) → month_place m node < month_place n node → m < n
month-below node m n h = omega arith

pub last_pot-behind : (pot : ℕ) (rows : List Statement) (s : Statement) → last_pot pot (rows ++ s ∷ []) ≡ s.pot
last_pot-behind pot [] s = refl
last_pot-behind pot (x ∷ rows) s = last_pot-behind x.pot rows s

-- the statements of a node before one of its own are those of earlier months
module _ (node : NodeId) (s : Statement) (own : s.node.0 ≡ node.0) where
  behind : (ys : List Statement) → AllAbove statement_rank (statement_rank s) ys → filter (λ x. (x.node.0 == node.0) && nat_lt x.month.0 s.month.0) ys ≡ []
  behind [] above = refl
  behind (y ∷ ys) above = go (y.node.0 == node.0) (nat_lt y.month.0 s.month.0) refl refl (behind ys above.1)
    where
      go : (a b : Bool) → (y.node.0 == node.0) ≡ a → nat_lt y.month.0 s.month.0 ≡ b → filter (λ x. (x.node.0 == node.0) && nat_lt x.month.0 s.month.0) ys ≡ [] → (if a && b then y ∷ filter (λ x. (x.node.0 == node.0) && nat_lt x.month.0 s.month.0) ys else filter (λ x. (x.node.0 == node.0) && nat_lt x.month.0 s.month.0) ys) ≡ []
      go true true e f later =
          let same : y.node.0 ≡ s.node.0 = grind (arith, nat_tests, e, own) in
          let lt : y.month.0 < s.month.0 = grind (arith, nat_tests, f) in
          let above_s : month_place s.month.0 s.node.0 < month_place y.month.0 s.node.0 = subst (λ (k : ℕ). month_place s.month.0 s.node.0 < month_place y.month.0 k) same above.0 in
          absurd (omega (arith, month-below s.node.0 s.month.0 y.month.0 above_s))
      go true false e f later = later
      go false b e f later = later

  pub before : (xs ys : List Statement) → IsRising statement_rank (xs ++ s ∷ ys) → filter (λ x. (x.node.0 == node.0) && nat_lt x.month.0 s.month.0) (xs ++ s ∷ ys) ≡ of_node node xs
  before [] ys rising = let none = behind ys rising.0 in grind (arith, nat_tests, none)
  before (x ∷ xs) ys rising = go (x.node.0 == node.0) (nat_lt x.month.0 s.month.0) refl refl (before xs ys rising.1) (above-at (statement_rank x) xs rising.0)
    where
      above-at : (n : ℕ) (zs : List Statement) → AllAbove statement_rank n (zs ++ s ∷ ys) → n < statement_rank s
      above-at n [] h = h.0
      above-at n (z ∷ zs) h = above-at n zs h.1

      go : (a b : Bool) → (x.node.0 == node.0) ≡ a → nat_lt x.month.0 s.month.0 ≡ b → filter (λ z. (z.node.0 == node.0) && nat_lt z.month.0 s.month.0) (xs ++ s ∷ ys) ≡ of_node node xs → statement_rank x < statement_rank s
          → (if a && b then x ∷ filter (λ z. (z.node.0 == node.0) && nat_lt z.month.0 s.month.0) (xs ++ s ∷ ys) else filter (λ z. (z.node.0 == node.0) && nat_lt z.month.0 s.month.0) (xs ++ s ∷ ys)) ≡ (if a then x ∷ of_node node xs else of_node node xs)
      go true true e f later lt = ap (λ (zs : List Statement). x ∷ zs) later
      go true false e f later lt =
          let same : s.node.0 ≡ x.node.0 = grind (arith, nat_tests, e, own) in
          let ge : s.month.0 ≤ x.month.0 = grind (arith, nat_tests, f) in
          let below : month_place x.month.0 x.node.0 < month_place s.month.0 x.node.0 = subst (λ (k : ℕ). month_place x.month.0 x.node.0 < month_place s.month.0 k) same lt in
          absurd (omega (arith, month-below x.node.0 x.month.0 s.month.0 below))
      go false b e f later lt = later

module _ (l : Ledger) (node : NodeId) where
  chain : (xs ys : List Statement) → xs ++ ys ≡ l.statements → IsRising statement_rank (xs ++ ys) → Each (IsStated l) ys
      → sum_by (λ s. s.paid) (of_node node ys) + sum_by (λ s. s.returned) (of_node node ys) + last_pot (last_pot 0 (of_node node xs)) (of_node node ys)
      ≡ sum_by (λ s. s.parts.gross) (of_node node ys) + last_pot 0 (of_node node xs)
  unfolding pot_before
  chain xs [] whole rising each = omega arith
  chain xs (s ∷ ys) whole rising each =
      let moved : (xs ++ s ∷ []) ++ ys ≡ xs ++ s ∷ ys = append_assoc xs (s ∷ []) ys in
      let next = chain (xs ++ s ∷ []) ys (moved ∙ whole) (subst (λ (zs : List Statement). IsRising statement_rank zs) (sym moved) rising) each.1 in
      let b = balanced l s each.0 in
      go (s.node.0 == node.0) refl (filter-append (λ (x : Statement). x.node.0 == node.0) xs (s ∷ [])) next
      (λ own. subst (λ (p : ℕ). Balances p s) (ap (λ (zs : List Statement). last_pot 0 (filter (λ x. (x.node.0 == s.node.0) && nat_lt x.month.0 s.month.0) zs)) (sym whole) ∙ (ap (λ (k : ℕ). last_pot 0 (filter (λ x. (x.node.0 == k) && nat_lt x.month.0 s.month.0) (xs ++ s ∷ ys))) own ∙ ap (last_pot 0) (before node s own xs ys rising))) b)
    where
      go : (mine : Bool) → (s.node.0 == node.0) ≡ mine → of_node node (xs ++ s ∷ []) ≡ of_node node xs ++ (if mine then s ∷ [] else [])
          → sum_by (λ x. x.paid) (of_node node ys) + sum_by (λ x. x.returned) (of_node node ys) + last_pot (last_pot 0 (of_node node (xs ++ s ∷ []))) (of_node node ys) ≡ sum_by (λ x. x.parts.gross) (of_node node ys) + last_pot 0 (of_node node (xs ++ s ∷ []))
          → (s.node.0 ≡ node.0 → Balances (last_pot 0 (of_node node xs)) s)
          → sum_by (λ x. x.paid) (if mine then s ∷ of_node node ys else of_node node ys) + sum_by (λ x. x.returned) (if mine then s ∷ of_node node ys else of_node node ys) + last_pot (last_pot 0 (of_node node xs)) (if mine then s ∷ of_node node ys else of_node node ys)
          ≡ sum_by (λ x. x.parts.gross) (if mine then s ∷ of_node node ys else of_node node ys) + last_pot 0 (of_node node xs)
      go true e split next b =
          let own : s.node.0 ≡ node.0 = grind (arith, nat_tests, e) in
          let pot : last_pot 0 (of_node node (xs ++ s ∷ [])) ≡ s.pot = ap (last_pot 0) split ∙ last_pot-behind 0 (of_node node xs) s in
          let after = subst (λ (p : ℕ). sum_by (λ x. x.paid) (of_node node ys) + sum_by (λ x. x.returned) (of_node node ys) + last_pot p (of_node node ys) ≡ sum_by (λ x. x.parts.gross) (of_node node ys) + p) pot next in
          let balance = b own in
          omega (arith, balance.gross, balance.all, after, sum_by-cons (λ (x : Statement). x.paid) s (of_node node ys), sum_by-cons (λ (x : Statement). x.returned) s (of_node node ys), sum_by-cons (λ (x : Statement). x.parts.gross) s (of_node node ys))
      go false e split next b =
          let pot : last_pot 0 (of_node node (xs ++ s ∷ [])) ≡ last_pot 0 (of_node node xs) = ap (last_pot 0) (split ∙ append-nil (of_node node xs)) in
          subst (λ (p : ℕ). sum_by (λ x. x.paid) (of_node node ys) + sum_by (λ x. x.returned) (of_node node ys) + last_pot p (of_node node ys) ≡ sum_by (λ x. x.parts.gross) (of_node node ys) + p) pot next

pub all_whole : (cap : ℕ) (l : Ledger) → RuleHolds cap l → Each (IsWhole l) l.statements
all_whole cap l h = each-all (is_sound_statement l) (IsWhole l) (is_whole l) l.statements h.all

pub node_conserved : (cap : ℕ) (l : Ledger) (node : NodeId) → RuleHolds cap l → IsRising statement_rank l.statements
    → sum_by (λ s. s.paid) (of_node node l.statements) + sum_by (λ s. s.returned) (of_node node l.statements) + last_pot 0 (of_node node l.statements) ≡ sum_by (λ s. s.parts.gross) (of_node node l.statements)
node_conserved cap l node h rising =
    omega (arith, chain l node [] l.statements refl rising (each-all (is_sound_statement l) (IsStated l) (is_stated l) l.statements h.all))
