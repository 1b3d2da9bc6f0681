-- The close of a month keeps the rule.
use Rattle.std.proofs.Common.{◌≡◌, ℕ, ◌+◌, ◌-◌, ◌^◌, ◌<◌, ◌≤◌, Bool, true, false, not, List, [], ◌∷◌, ◌++◌, length, Option, Some, None, is_some, inl, inr, refl, sym, ap, subst, ◌∙◌, arith}
use Rattle.std.specs.Prelude.{if◌then◌else◌, ◌==◌, ◌||◌, ◌&&◌, nat_lt, map, filter}
use Rattle.std.specs.List.{list_all}
use Rattle.std.proofs.lemmas.List.{append-nil}
use Rattle.std.proofs.lemmas.List.Elements.{filter-append}
use Rattle.std.proofs.lemmas.Bool.{cases_lt, and_parts, and_from}
use Rattle.std.proofs.lemmas.Bool.Decides.{nat_tests}
use Rattle.sat_base.specs.declared.ids.NodeId.{NodeId}
use Rattle.rows.specs.Rows.{row_at, AllAbove, IsRising, Each}
use Rattle.node_registry.specs.declared.node.Node.{Node}
use Rattle.node_registry.specs.Registry.{node_rank, node_at}
use Rattle.tally_payout.specs.declared.amounts.Statement.{Statement}
use Rattle.tally_payout.specs.Statement.{percent_of, statement_of, last_pot}
use Rattle.month_pay.specs.Months.{month_at}
use Rattle.tally_payout.specs.Ranks.{month_place, statement_rank}
use Rattle.node_registry.specs.Standing.{is_disqualified}
use Rattle.month_pay.specs.Ledger.{Ledger, has_joined, stated, closing, pot_before, month_rows, closed}
use Rattle.month_pay.specs.Rule.{same_statement, follows, is_closed, is_sound_statement}
use Rattle.month_pay.specs.Keeping.{Covers, RuleHolds, AreNodes}
use Rattle.rows.proofs.Found.{rank-found}
use Rattle.month_pay.proofs.ListFacts.{list_all-append, all-weaker, each-weaker, row_at-append, row_at-behind, rising-append, each-found, each-at, each-all}

-- ---- one statement

percent_of-hundred : (age : ℕ) (gone : Bool) → (percent_of age gone == 100) ≡ gone
percent_of-hundred age true = refl
percent_of-hundred age false = grind (arith, nat_tests)

pub same-self : (s : Statement) → same_statement s s ≡ true
unfolding same_statement
same-self s = grind (arith, nat_tests)

-- whose it is, of which month, and whether all is held back
pub record Names (s : Statement) (month : ℕ) (node : Node) (gone : Bool) : Type 0 where
  pub whose : s.node ≡ node.id
  pub within : s.month.0 ≡ month
  pub all_held : (s.percent == 100) ≡ gone

pub names : (l : Ledger) (month : ℕ) (node : Node) (gone : Bool) → Names (stated l month node gone) month node gone
unfolding stated statement_of
names l month node gone = record { whose = refl; within = refl; all_held = percent_of-hundred (month + 1 - month_at node.joined) gone }

follows-stated : (l : Ledger) (s : Statement) (month : ℕ) (node : Node) (gone : Bool) → Names s month node gone → (gone ≡ true → is_disqualified node.status ≡ true) → has_joined month node ≡ true → stated l month node gone ≡ s → follows l s (Some node) ≡ true
unfolding follows
follows-stated l s month node gone n allowed joined is =
    let late : has_joined s.month.0 node ≡ true = rw n.within joined in
    let same : stated l s.month.0 node (s.percent == 100) ≡ s = ap (λ (m : ℕ). stated l m node (s.percent == 100)) n.within ∙ (ap (λ (g : Bool). stated l month node g) n.all_held ∙ is) in
    and_from _ _ late (and_from _ _ (held (s.percent == 100) (λ h. allowed (sym n.all_held ∙ h))) (ap (same_statement s) same ∙ same-self s))
  where
    held : (b : Bool) → (b ≡ true → is_disqualified node.status ≡ true) → (not b || is_disqualified node.status) ≡ true
    held true h = h refl
    held false h = refl

-- ---- the statements of a month

module _ (l : Ledger) (month : ℕ) where
  abbrev rows_of : List Node → List Statement
  rows_of nodes = map (closing l month) (filter (has_joined month) nodes)

  closing-names : (node : Node) → Names (closing l month node) month node (is_disqualified node.status)
  closing-names node = names l month node (is_disqualified node.status)

  of_month : (nodes : List Node) → Each (λ s. s.month.0 ≡ month) (rows_of nodes)
  of_month [] = tt
  of_month (node ∷ rest) = go (has_joined month node) (of_month rest)
    where
      go : (b : Bool) → Each (λ s. s.month.0 ≡ month) (rows_of rest) → Each (λ s. s.month.0 ≡ month) (map (closing l month) (if b then node ∷ filter (has_joined month) rest else filter (has_joined month) rest))
      go true later = ((closing-names node).within, later)
      go false later = later

  rank-closing : (node : Node) → statement_rank (closing l month node) ≡ month_place month node.id.0
  rank-closing node = let n = closing-names node in rw (n.whose, n.within) refl

  all_covered : (nodes : List Node) → Covers (rows_of nodes) month nodes
  all_covered [] = tt
  all_covered (node ∷ rest) = go (has_joined month node) (all_covered rest)
    where
      shown : Node → List Statement → Type 0
      shown x rows = has_joined month x ≡ true → is_some (row_at statement_rank rows (month_place month x.id.0)) ≡ true

      more : (s : Statement) (rows : List Statement) (k : ℕ) → is_some (row_at statement_rank rows k) ≡ true → is_some (row_at statement_rank (s ∷ rows) k) ≡ true
      more s rows k h = grind (arith, nat_tests, h)

      here : (s : Statement) (rows : List Statement) (k : ℕ) → statement_rank s ≡ k → is_some (row_at statement_rank (s ∷ rows) k) ≡ true
      here s rows k e = grind (arith, nat_tests, e)

      go : (b : Bool) → Covers (rows_of rest) month rest → (b ≡ true → is_some (row_at statement_rank (map (closing l month) (if b then node ∷ filter (has_joined month) rest else filter (has_joined month) rest)) (month_place month node.id.0)) ≡ true)
          × Covers (map (closing l month) (if b then node ∷ filter (has_joined month) rest else filter (has_joined month) rest)) month rest
      go true later = (λ _. here (closing l month node) (rows_of rest) (month_place month node.id.0) (rank-closing node), each-weaker (λ x. has_joined month x ≡ true → is_some (row_at statement_rank (rows_of rest) (month_place month x.id.0)) ≡ true) (λ x. has_joined month x ≡ true → is_some (row_at statement_rank (closing l month node ∷ rows_of rest) (month_place month x.id.0)) ≡ true) (λ x h joined. more (closing l month node) (rows_of rest) (month_place month x.id.0) (h joined)) rest later)
      go false later = (λ h. cc, later)

  place_lt : (a b : ℕ) → a < b → month_place month a < month_place month b
  place_lt a b h = omega arith

  rows_above : (nodes : List Node) (n : ℕ) → AllAbove node_rank n nodes → AllAbove statement_rank (month_place month n) (rows_of nodes)
  rows_above [] n above = tt
  rows_above (node ∷ rest) n above = go (has_joined month node) (rows_above rest n above.1)
    where
      go : (b : Bool) → AllAbove statement_rank (month_place month n) (rows_of rest) → AllAbove statement_rank (month_place month n) (map (closing l month) (if b then node ∷ filter (has_joined month) rest else filter (has_joined month) rest))
      go true later = (subst (λ (k : ℕ). month_place month n < k) (sym (rank-closing node)) (place_lt n node.id.0 above.0), later)
      go false later = later

  rows_rise : (nodes : List Node) → IsRising node_rank nodes → IsRising statement_rank (rows_of nodes)
  rows_rise [] rising = tt
  rows_rise (node ∷ rest) rising = go (has_joined month node) (rows_rise rest rising.1)
    where
      go : (b : Bool) → IsRising statement_rank (rows_of rest) → IsRising statement_rank (map (closing l month) (if b then node ∷ filter (has_joined month) rest else filter (has_joined month) rest))
      go true later = (subst (λ (k : ℕ). AllAbove statement_rank k (rows_of rest)) (sym (rank-closing node)) (rows_above rest node.id.0 rising.0), later)
      go false later = later

-- ---- the close

-- statements of a month or later ones leave the pots before it
pot-behind : (rows new : List Statement) (node : NodeId) (month next : ℕ) → month ≤ next → Each (λ s. s.month.0 ≡ next) new → pot_before (rows ++ new) node month ≡ pot_before rows node month
unfolding pot_before
pot-behind rows new node month next le each =
    let test : Statement → Bool = λ s. (s.node.0 == node.0) && nat_lt s.month.0 month in
    ap (last_pot 0) (filter-append test rows new ∙ ap (λ (t : List Statement). filter test rows ++ t) (none new each) ∙ append-nil (filter test rows))
  where
    none : (xs : List Statement) → Each (λ s. s.month.0 ≡ next) xs → filter (λ s. (s.node.0 == node.0) && nat_lt s.month.0 month) xs ≡ []
    none [] h = refl
    none (x ∷ xs) h = grind (arith, nat_tests, h.0, none xs h.1)

module _ (l : Ledger) (nodes : AreNodes l.nodes) (begun : l.first ≤ l.next) where
  new_rows : Each (λ s. s.month.0 ≡ l.next) (month_rows l l.next)
  unfolding month_rows
  new_rows = of_month l l.next l.nodes

  stated-closed : (month : ℕ) (node : Node) (gone : Bool) → month ≤ l.next → stated (closed l) month node gone ≡ stated l month node gone
  unfolding stated
  stated-closed month node gone le =
      let pot = pot-behind l.statements (month_rows l l.next) node.id month l.next le new_rows in
      rw pot refl

  follows-closed : (s : Statement) (found : Option Node) → s.month.0 < l.next → follows l s found ≡ true → follows (closed l) s found ≡ true
  unfolding follows
  follows-closed s None lt h = cc
  follows-closed s (Some node) lt h =
      let first = and_parts _ _ h in
      let second = and_parts _ _ first.1 in
      and_from _ _ first.0 (and_from _ _ second.0 (ap (same_statement s) (stated-closed s.month.0 node (s.percent == 100) (omega arith)) ∙ second.1))

  old-closed : (s : Statement) → is_sound_statement l s ≡ true → is_sound_statement (closed l) s ≡ true
  old-closed s h =
      let parts = and_parts (is_closed l s.month.0) (follows l s (node_at l.nodes s.node)) h in
      let within = parts.0 in
      let lt : s.month.0 < l.next = grind (arith, nat_tests, within) in
      let later : is_closed (closed l) s.month.0 ≡ true = grind (arith, nat_tests, within) in
      and_from _ _ later (follows-closed s (node_at l.nodes s.node) lt parts.1)

  new-closed : (node : Node) → node_at l.nodes node.id ≡ Some node → has_joined l.next node ≡ true → is_sound_statement (closed l) (closing l l.next node) ≡ true
  new-closed node at joined =
      let gone = is_disqualified node.status in
      let n = names l l.next node gone in
      let found : node_at l.nodes (closing l l.next node).node ≡ Some node = ap (λ (id : NodeId). node_at l.nodes id) n.whose ∙ at in
      let month : (closing l l.next node).month.0 ≡ l.next = n.within in
      let within : is_closed (closed l) (closing l l.next node).month.0 ≡ true = rw month (grind (arith, nat_tests, begun)) in
      and_from _ _ within (ap (follows (closed l) (closing l l.next node)) found
      ∙ follows-stated (closed l) (closing l l.next node) l.next node gone n (λ h. h) joined (stated-closed l.next node gone (omega arith)))

  all-closed : (rows : List Node) → Each (λ node. node_at l.nodes node.id ≡ Some node) rows → list_all (is_sound_statement (closed l)) (rows_of l l.next rows) ≡ true
  all-closed [] each = refl
  all-closed (node ∷ rest) each = go (has_joined l.next node) refl (all-closed rest each.1)
    where
      go : (b : Bool) → has_joined l.next node ≡ b → list_all (is_sound_statement (closed l)) (rows_of l l.next rest) ≡ true
          → list_all (is_sound_statement (closed l)) (map (closing l l.next) (if b then node ∷ filter (has_joined l.next) rest else filter (has_joined l.next) rest)) ≡ true
      go true joined later = and_from _ _ (new-closed node each.0 joined) later
      go false joined later = later

  -- an old statement is of an earlier month, and of a known node
  old-low : (s : Statement) → is_sound_statement l s ≡ true → (s.month.0 < l.next) × (s.node.0 < 2 ^ 32)
  unfolding follows
  old-low s h =
      let parts = and_parts (is_closed l s.month.0) (follows l s (node_at l.nodes s.node)) h in
      let within = parts.0 in
      let lt : s.month.0 < l.next = grind (arith, nat_tests, within) in
      (lt, go (node_at l.nodes s.node) refl parts.1)
    where
      go : (found : Option Node) → node_at l.nodes s.node ≡ found → follows l s found ≡ true → s.node.0 < 2 ^ 32
      go None at h = cc
      go (Some node) at h =
          let same : node.id.0 ≡ s.node.0 = rank-found node_rank l.nodes s.node.0 node at in
          let low : node.id.0 < 2 ^ 32 = each-found node_rank (λ (x : Node). x.id.0 < 2 ^ 32) l.nodes s.node.0 node nodes.low at in
          omega arith

  pub old-below : (s : Statement) → is_sound_statement l s ≡ true → statement_rank s ≤ month_place l.next 0
  old-below s h = let low = old-low s h in omega (arith, low.0, low.1)

  pub closed-rising : list_all (is_sound_statement l) l.statements ≡ true → IsRising statement_rank l.statements → IsRising statement_rank (l.statements ++ month_rows l l.next)
  unfolding month_rows
  closed-rising all rising =
      rising-append statement_rank l.statements (month_rows l l.next) (month_place l.next 0) rising (rows_rise l l.next l.nodes nodes.rising)
      (each-all (is_sound_statement l) (λ s. statement_rank s ≤ month_place l.next 0) old-below l.statements all) (rows_above l l.next l.nodes 0 nodes.some)

  closed-due : ((month : ℕ) → l.first ≤ month → month < l.next → Covers l.statements month l.nodes) → (month : ℕ) → l.first ≤ month → month < l.next + 1 → Covers (l.statements ++ month_rows l l.next) month l.nodes
  unfolding month_rows
  closed-due due month le lt =
      elim (cases_lt month l.next) [
        | inl before ↦ each-weaker (λ node. has_joined month node ≡ true → is_some (row_at statement_rank l.statements (month_place month node.id.0)) ≡ true) (λ node. has_joined month node ≡ true → is_some (row_at statement_rank (l.statements ++ month_rows l l.next) (month_place month node.id.0)) ≡ true) (λ node h joined. row_at-append statement_rank l.statements (month_rows l l.next) (month_place month node.id.0) (h joined)) l.nodes (due month le before)
        | inr now ↦ let same : l.next ≡ month = omega arith in subst (λ m. Covers (l.statements ++ month_rows l l.next) m l.nodes) same
            (each-weaker (λ node. has_joined l.next node ≡ true → is_some (row_at statement_rank (month_rows l l.next) (month_place l.next node.id.0)) ≡ true) (λ node. has_joined l.next node ≡ true → is_some (row_at statement_rank (l.statements ++ month_rows l l.next) (month_place l.next node.id.0)) ≡ true) (λ node h joined. row_at-behind statement_rank l.statements (month_rows l l.next) (month_place l.next node.id.0) (h joined)) l.nodes (all_covered l l.next l.nodes))
      ]

  pub close_keeps : (cap : ℕ) → RuleHolds cap l → length (l.statements ++ month_rows l l.next) ≤ cap → RuleHolds cap (closed l)
  unfolding month_rows
  close_keeps cap h few = record {
    few = few;
    all = list_all-append (is_sound_statement (closed l)) l.statements (month_rows l l.next) (all-weaker (is_sound_statement l) (is_sound_statement (closed l)) old-closed l.statements h.all) (all-closed l.nodes (each-at node_rank l.nodes nodes.rising));
    due = closed-due h.due;
  }
