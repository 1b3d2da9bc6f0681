-- One step of the pass.
use Rattle.std.proofs.Common.{◌≡◌, ℕ, zero, suc, ◌+◌, ◌-◌, ◌^◌, ◌<◌, Bool, true, false, not, List, [], ◌∷◌, ◌++◌, length, take, drop, min, Option, Some, None, refl, sym, ap, subst, ◌∙◌, append_assoc, arith}
use Rattle.std.specs.Prelude.{if◌then◌else◌, ◌==◌, ◌||◌, ◌&&◌, nat_lt, nat_le, slice_get, slice_set, filter}
use Rattle.std.proofs.lemmas.List.{append-nil}
use Rattle.std.proofs.lemmas.List.Elements.{filter-append}
use Rattle.std.proofs.lemmas.Bool.Decides.{nat_tests}
use Rattle.sat_base.specs.declared.ids.NodeId.{NodeId}
use Rattle.sat_base.specs.declared.rates.Rates.{Rates}
use Rattle.node_registry.specs.declared.node.Node.{Node}
use Rattle.node_registry.specs.Registry.{node_at, node_rank}
use Rattle.tally_payout.specs.declared.amounts.Sums.{Sums}
use Rattle.tally_payout.specs.declared.amounts.Statement.{Statement}
use Rattle.tally_payout.specs.Statement.{statement_of, last_pot}
use Rattle.node_registry.specs.declared.node.Left.{Left}
use Rattle.month_pay.specs.Months.{month_at}
use Rattle.tally_payout.specs.Ranks.{month_place, statement_rank}
use Rattle.node_registry.specs.Standing.{is_disqualified}
use Rattle.month_pay.specs.Ledger.{Ledger, has_joined, has_left, stated, sums_of, pot_before}
use Rattle.month_pay.specs.Rule.{same_statement, follows, is_closed, is_sound_statement}
use Rattle.month_pay.specs.Walk.{is_good, walk}
use Rattle.rows.specs.Rows.{IsRising, Each}
use Rattle.month_pay.specs.Keeping.{of_node}
use Rattle.month_pay.proofs.ListFacts.{each-at}
use Rattle.month_pay.proofs.Conserved.{before, last_pot-behind, same-id}
use Rattle.month_pay.proofs.Amounts.{fronts_fit}
use Rattle.month_sums.specs.declared.opening.Found.{Found}
use Rattle.month_sums.specs.declared.opening.Found.TheVariants as found
use Rattle.month_sums.specs.Opening.{stated_as, GoByNode, IsNext, LooksOn, GoByMonth, Front, noted, pots_after}
use Rattle.month_sums.proofs.Ready.{each-got, above-each}
use Rattle.month_sums.proofs.Weights.{one_place}

module _ (l : Ledger) (month : ℕ) (node : Node) (sums : Sums) (pot : ℕ) (left : List Left) (rates : Rates) (go : GoByNode l month node sums pot left rates) where
  stated-by : (s : Statement) → stated_as s month node sums pot left rates ≡ stated l month node (s.percent == 100)
  unfolding stated
  stated-by s =
      let gone = s.percent == 100 in
      ap (λ (x : Sums). statement_of node.id (record { 0 = month }) (month + 1 - month_at node.joined) gone (has_left left node.id month) x pot rates) go.sums_are
      ∙ (ap (λ (p : ℕ). statement_of node.id (record { 0 = month }) (month + 1 - month_at node.joined) gone (has_left left node.id month) (sums_of l.settled l.tallies node.id month) p rates) go.pot_is
      ∙ (ap (λ (x : List Left). statement_of node.id (record { 0 = month }) (month + 1 - month_at node.joined) gone (has_left x node.id month) (sums_of l.settled l.tallies node.id month) (pot_before l.statements node.id month) rates) go.left_is
      ∙ ap (λ (r : Rates). statement_of node.id (record { 0 = month }) (month + 1 - month_at node.joined) gone (has_left l.left node.id month) (sums_of l.settled l.tallies node.id month) (pot_before l.statements node.id month) r) go.rates_are))

  pub follows-by : (s : Statement) → s.month.0 ≡ month → ((not (s.percent == 100) || is_disqualified node.status) && same_statement s (stated_as s month node sums pot left rates)) ≡ follows l s (Some node)
  unfolding follows
  follows-by s is_month =
      let may = not (s.percent == 100) || is_disqualified node.status in
      let joined : has_joined s.month.0 node ≡ true = ap (λ (m : ℕ). has_joined m node) is_month ∙ go.joined in
      let same : stated_as s month node sums pot left rates ≡ stated l s.month.0 node (s.percent == 100) = stated-by s ∙ ap (λ (m : ℕ). stated l m node (s.percent == 100)) (sym is_month) in
      ap (λ (x : Statement). may && same_statement s x) same ∙ sym (ap (λ (b : Bool). b && (may && same_statement s (stated l s.month.0 node (s.percent == 100)))) joined)

  -- a statement at the due place is of this node and month, so that the rule says of it whether it follows
  pub good-by : (cap i : ℕ) (s : Statement) → statement_rank s ≡ month_place month node.id.0 → s.node.0 < 2 ^ 32 → node.id.0 < 2 ^ 32 → is_good cap l i s ≡ (nat_lt i cap && follows l s (Some node))
  good-by cap i s is low low' =
      let parts = one_place s.month.0 month s.node.0 node.id.0 low low' is in
      let own : node_at l.nodes s.node ≡ Some node = ap (λ (id : NodeId). node_at l.nodes id) (same-id s.node node.id parts.1) ∙ go.known in
      let first = go.first in
      let closed = go.closed in
      let within : is_closed l s.month.0 ≡ true = let in_month = parts.0 in grind (arith, nat_tests, in_month, first, closed) in
      let sound : is_sound_statement l s ≡ follows l s (Some node) = ap (λ (b : Bool). b && follows l s (node_at l.nodes s.node)) within ∙ ap (follows l s) own in
      ap (λ (b : Bool). not (nat_le cap i || not b)) sound ∙ by-cases (follows l s (Some node))
    where
      by-cases : (b : Bool) → not (nat_le cap i || not b) ≡ (nat_lt i cap && b)
      by-cases true = grind (arith, nat_tests)
      by-cases false = grind (arith, nat_tests)

rest-of : (rows : List Statement) (i : ℕ) (s : Statement) → slice_get rows i ≡ Some s → drop i rows ≡ s ∷ drop (i + 1) rows
rest-of [] i s got = absurd cc
rest-of (x ∷ rows) zero s got = let same : x ≡ s = cc in ap (λ (y : Statement). y ∷ rows) same
rest-of (x ∷ rows) (suc i) s got =
    let next : suc i + 1 ≡ suc (i + 1) = omega arith in
    rw next (rest-of rows i s got)

-- at the due place
pub passes-at : (good : ℕ → Statement → Bool) (k : ℕ) (keys : List ℕ) (rows : List Statement) (i : ℕ) (s : Statement) (b : Bool) → slice_get rows i ≡ Some s → statement_rank s ≡ k → good i s ≡ b
    → walk good i (k ∷ keys) (drop i rows) ≡ (if b then walk good (i + 1) keys (drop (i + 1) rows) else Some k)
passes-at good k keys rows i s b got is fine =
    let here : (statement_rank s == k) ≡ true = grind (arith, nat_tests, is) in
    let next : suc i ≡ i + 1 = omega arith in
    ap (λ (xs : List Statement). walk good i (k ∷ keys) xs) (rest-of rows i s got)
    ∙ (ap (λ (c : Bool). if c then (if good i s then walk good (suc i) keys (drop (i + 1) rows) else Some k) else (if nat_lt (statement_rank s) k then Some (statement_rank s) else Some k)) here
    ∙ (ap (λ (c : Bool). if c then walk good (suc i) keys (drop (i + 1) rows) else Some k) fine
    ∙ ap (λ (n : ℕ). if b then walk good n keys (drop (i + 1) rows) else Some k) next))

pub step-at : (l : Ledger) (month : ℕ) (node : Node) (sums : Sums) (pot : ℕ) (left : List Left) (rates : Rates) → GoByNode l month node sums pot left rates → node.id.0 < 2 ^ 32 → (cap : ℕ) (keys : List ℕ) (rows : List Statement) → Each (λ s. s.node.0 < 2 ^ 32) rows
    → (i : ℕ) (s : Statement) (b r : Bool) → slice_get rows i ≡ Some s → statement_rank s ≡ month_place month node.id.0 → (s.month.0 ≡ month → r ≡ follows l s (Some node)) → b ≡ (nat_lt i cap && r)
    → walk (is_good cap l) i (month_place month node.id.0 ∷ keys) (drop i rows) ≡ (if b then walk (is_good cap l) (i + 1) keys (drop (i + 1) rows) else Some (month_place month node.id.0))
step-at l month node sums pot left rates go low cap keys rows all i s b r got is test both =
    let own : s.node.0 < 2 ^ 32 = each-got (λ (x : Statement). x.node.0 < 2 ^ 32) rows i s all got in
    let parts = one_place s.month.0 month s.node.0 node.id.0 own low is in
    let fine : is_good cap l i s ≡ b = good-by l month node sums pot left rates go cap i s is own low ∙ (ap (λ (x : Bool). nat_lt i cap && x) (sym (test parts.0)) ∙ sym both) in
    passes-at (is_good cap l) (month_place month node.id.0) keys rows i s b got is fine

none-left : (rows : List Statement) (i : ℕ) → slice_get rows i ≡ None → drop i rows ≡ []
none-left [] zero none = refl
none-left [] (suc i) none = refl
none-left (x ∷ rows) zero none = absurd cc
none-left (x ∷ rows) (suc i) none = none-left rows i none

-- nothing is left, though something is due
pub passes-none : (good : ℕ → Statement → Bool) (k : ℕ) (keys : List ℕ) (rows : List Statement) (i : ℕ) → slice_get rows i ≡ None → walk good i (k ∷ keys) (drop i rows) ≡ Some k
passes-none good k keys rows i none = ap (λ (xs : List Statement). walk good i (k ∷ keys) xs) (none-left rows i none)

-- before the due place, and behind it
pub passes-low : (good : ℕ → Statement → Bool) (k : ℕ) (keys : List ℕ) (rows : List Statement) (i : ℕ) (s : Statement) → slice_get rows i ≡ Some s → statement_rank s < k → walk good i (k ∷ keys) (drop i rows) ≡ Some (statement_rank s)
passes-low good k keys rows i s got lt =
    let other : (statement_rank s == k) ≡ false = grind (arith, nat_tests, lt) in
    let lower : nat_lt (statement_rank s) k ≡ true = grind (arith, nat_tests, lt) in
    ap (λ (xs : List Statement). walk good i (k ∷ keys) xs) (rest-of rows i s got)
    ∙ (ap (λ (c : Bool). if c then (if good i s then walk good (suc i) keys (drop (i + 1) rows) else Some k) else (if nat_lt (statement_rank s) k then Some (statement_rank s) else Some k)) other
    ∙ ap (λ (c : Bool). if c then Some (statement_rank s) else Some k) lower)

pub passes-high : (good : ℕ → Statement → Bool) (k : ℕ) (keys : List ℕ) (rows : List Statement) (i : ℕ) (s : Statement) → slice_get rows i ≡ Some s → k < statement_rank s → walk good i (k ∷ keys) (drop i rows) ≡ Some k
passes-high good k keys rows i s got gt =
    let other : (statement_rank s == k) ≡ false = grind (arith, nat_tests, gt) in
    let higher : nat_lt (statement_rank s) k ≡ false = grind (arith, nat_tests, gt) in
    ap (λ (xs : List Statement). walk good i (k ∷ keys) xs) (rest-of rows i s got)
    ∙ (ap (λ (c : Bool). if c then (if good i s then walk good (suc i) keys (drop (i + 1) rows) else Some k) else (if nat_lt (statement_rank s) k then Some (statement_rank s) else Some k)) other
    ∙ ap (λ (c : Bool). if c then Some (statement_rank s) else Some k) higher)

-- what a good statement tells
pub next-at : (l : Ledger) (month : ℕ) (node : Node) (sums : Sums) (pot : ℕ) (left : List Left) (rates : Rates) → GoByNode l month node sums pot left rates → node.id.0 < 2 ^ 32 → (cap : ℕ) (rows : List Statement) → Each (λ s. s.node.0 < 2 ^ 32) rows
    → (i n : ℕ) (s : Statement) (r : Bool) → slice_get rows i ≡ Some s → statement_rank s ≡ month_place month node.id.0 → (s.month.0 ≡ month → r ≡ follows l s (Some node)) → true ≡ (nat_lt i cap && r)
    → ◌≡◌ {A = Found} (found.Next (i + 1)) (found.Next n) → IsNext l rows (month_place month node.id.0) i n
next-at l month node sums pot left rates go low cap rows all i n s r got is test holds is_next =
    let own : s.node.0 < 2 ^ 32 = each-got (λ (x : Statement). x.node.0 < 2 ^ 32) rows i s all got in
    let parts = one_place s.month.0 month s.node.0 node.id.0 own low is in
    let fine : is_good cap l i s ≡ true = good-by l month node sums pot left rates go cap i s is own low ∙ (ap (λ (x : Bool). nat_lt i cap && x) (sym (test parts.0)) ∙ sym holds) in
    record { one_more = same (i + 1) n is_next; row = s; got = got; is_due = is; sound = sound (nat_le cap i) (is_sound_statement l s) fine }
  where
    same : (a b : ℕ) → ◌≡◌ {A = Found} (found.Next a) (found.Next b) → b ≡ a
    same a b e = cc

    sound : (full good : Bool) → not (full || not good) ≡ true → good ≡ true
    sound true good h = cc
    sound false true h = refl
    sound false false h = cc

-- ---- a node of a month

split-at : (rows : List Statement) (i : ℕ) (s : Statement) → slice_get rows i ≡ Some s → rows ≡ take i rows ++ s ∷ drop (i + 1) rows
split-at [] i s got = absurd cc
split-at (x ∷ rows) zero s got = let same : x ≡ s = cc in ap (λ (y : Statement). y ∷ rows) same
split-at (x ∷ rows) (suc i) s got =
    let next : suc i + 1 ≡ suc (i + 1) = omega arith in
    rw next (ap (λ (xs : List Statement). x ∷ xs) (split-at rows i s got))

some-is : (x y : ℕ) (o : Option ℕ) → o ≡ Some x → o ≡ Some y → x ≡ y
some-is x y o p q = cc

module _ (l : Ledger) (month : ℕ) (nodes : List Node) (rows : List Statement) (sums : List Sums) (left : List Left) (rates : Rates) (go : GoByMonth l month nodes rows sums left rates) where
  pub node-low : (j : ℕ) (node : Node) → slice_get nodes j ≡ Some node → node.id.0 < 2 ^ 32
  node-low j node at = each-got (λ (x : Node). x.id.0 < 2 ^ 32) nodes j node (subst (λ (xs : List Node). Each (λ x. x.id.0 < 2 ^ 32) xs) (sym go.nodes_are) go.numbered.low) at

  pot-by : (i : ℕ) (s : Statement) (node : Node) → slice_get rows i ≡ Some s → s.node.0 ≡ node.id.0 → s.month.0 ≡ month → pot_before l.statements node.id month ≡ last_pot 0 (of_node node.id (take i rows))
  unfolding pot_before
  pot-by i s node got own in_month =
      let whole : l.statements ≡ take i rows ++ s ∷ drop (i + 1) rows = sym go.rows_are ∙ split-at rows i s got in
      let rising = subst (λ (xs : List Statement). IsRising statement_rank xs) whole go.rising in
      ap (λ (m : ℕ). last_pot 0 (filter (λ x. (x.node.0 == node.id.0) && nat_lt x.month.0 m) l.statements)) (sym in_month)
      ∙ (ap (λ (xs : List Statement). last_pot 0 (filter (λ x. (x.node.0 == node.id.0) && nat_lt x.month.0 s.month.0) xs)) whole
      ∙ ap (last_pot 0) (before node.id s own (take i rows) (drop (i + 1) rows) rising))

  pub go-by : (i j : ℕ) (node : Node) (own : Sums) (pot : ℕ) (pots : List ℕ) → Front l nodes rows i pots → slice_get nodes j ≡ Some node → slice_get pots j ≡ Some pot → has_joined month node ≡ true → ((x : Sums) → slice_get sums i ≡ Some x → own ≡ x)
      → (s : Statement) → slice_get rows i ≡ Some s → statement_rank s ≡ month_place month node.id.0 → GoByNode l month node own pot left rates
  go-by i j node own pot pots front at has joined sums_own s got is =
      let low = node-low j node at in
      let parts = one_place s.month.0 month s.node.0 node.id.0 (each-got (λ (x : Statement). x.node.0 < 2 ^ 32) rows i s go.low got) low is in
      let at_l : slice_get l.nodes j ≡ Some node = ap (λ (xs : List Node). slice_get xs j) (sym go.nodes_are) ∙ at in
      record {
        first = go.first;
        closed = go.closed;
        known = each-got (λ (x : Node). node_at l.nodes x.id ≡ Some x) l.nodes j node (each-at node_rank l.nodes go.numbered.rising) at_l;
        joined = joined;
        sums_are = sums_own (sums_of l.settled l.tallies s.node s.month.0) (go.sums_are i s got) ∙ (ap (λ (n : NodeId). sums_of l.settled l.tallies n s.month.0) (same-id s.node node.id parts.1) ∙ ap (λ (m : ℕ). sums_of l.settled l.tallies node.id m) parts.0);
        pot_is = some-is pot _ (slice_get pots j) has (front.left_by j node at) ∙ sym (pot-by i s node got parts.1 parts.0);
        left_is = go.left_is;
        rates_are = go.rates_are;
      }

-- ---- the pots

got-set : (pots : List ℕ) (j v x : ℕ) → slice_get pots j ≡ Some x → slice_get (slice_set pots j v) j ≡ Some v
got-set [] j v x got = absurd cc
got-set (p ∷ pots) zero v x got = refl
got-set (p ∷ pots) (suc j) v x got = got-set pots j v x got

got-other : (pots : List ℕ) (j k v : ℕ) → (j ≡ k → ⊥) → slice_get (slice_set pots j v) k ≡ slice_get pots k
got-other [] j k v other = refl
got-other (p ∷ pots) zero zero v other = absurd (other refl)
got-other (p ∷ pots) zero (suc k) v other = refl
got-other (p ∷ pots) (suc j) zero v other = refl
got-other (p ∷ pots) (suc j) (suc k) v other = got-other pots j k v (λ same. other (ap suc same))

pub long-set : (pots : List ℕ) (j v : ℕ) → length (slice_set pots j v) ≡ length pots
long-set [] j v = refl
long-set (p ∷ pots) zero v = refl
long-set (p ∷ pots) (suc j) v = ap suc (long-set pots j v)

ids-apart : (nodes : List Node) (j k : ℕ) (node other : Node) → IsRising node_rank nodes → slice_get nodes j ≡ Some node → slice_get nodes k ≡ Some other → node.id.0 ≡ other.id.0 → j ≡ k
ids-apart [] j k node other rising at at' same = absurd cc
ids-apart (x ∷ nodes) zero zero node other rising at at' same = refl
ids-apart (x ∷ nodes) zero (suc k) node other rising at at' same =
    let is : x ≡ node = cc in
    let above : x.id.0 < other.id.0 = each-got (λ (y : Node). x.id.0 < y.id.0) nodes k other (above-each nodes x.id.0 rising.0) at' in
    let rank : x.id.0 ≡ node.id.0 = ap (λ (y : Node). y.id.0) is in
    absurd (omega arith)
ids-apart (x ∷ nodes) (suc j) zero node other rising at at' same =
    let is : x ≡ other = cc in
    let above : x.id.0 < node.id.0 = each-got (λ (y : Node). x.id.0 < y.id.0) nodes j node (above-each nodes x.id.0 rising.0) at in
    let rank : x.id.0 ≡ other.id.0 = ap (λ (y : Node). y.id.0) is in
    absurd (omega arith)
ids-apart (x ∷ nodes) (suc j) (suc k) node other rising at at' same = ap suc (ids-apart nodes j k node other rising.1 at at' same)

take-next : (rows : List Statement) (i : ℕ) (s : Statement) → slice_get rows i ≡ Some s → take (i + 1) rows ≡ take i rows ++ s ∷ []
take-next [] i s got = absurd cc
take-next (x ∷ rows) zero s got = let same : x ≡ s = cc in ap (λ (y : Statement). y ∷ []) same
take-next (x ∷ rows) (suc i) s got =
    let next : suc i + 1 ≡ suc (i + 1) = omega arith in
    rw next (ap (λ (xs : List Statement). x ∷ xs) (take-next rows i s got))

each-snoc : (P : Statement → Type 0) (xs : List Statement) (s : Statement) → Each P xs → P s → Each P (xs ++ s ∷ [])
each-snoc P [] s each one = (one, tt)
each-snoc P (x ∷ xs) s each one = (each.0, each-snoc P xs s each.1 one)

each-last : (P : Statement → Type 0) (xs : List Statement) (s : Statement) → Each P (xs ++ s ∷ []) → P s
each-last P [] s each = each.0
each-last P (x ∷ xs) s each = each-last P xs s each.1

some-node : (x y : Node) (o : Option Node) → o ≡ Some x → o ≡ Some y → x ≡ y
some-node x y o p q = cc

module _ (l : Ledger) (month : ℕ) (nodes : List Node) (rows : List Statement) (sums : List Sums) (left : List Left) (rates : Rates) (go : GoByMonth l month nodes rows sums left rates) where
  next-pots : (i j : ℕ) (node : Node) (pot : ℕ) (pots : List ℕ) → Front l nodes rows i pots → slice_get nodes j ≡ Some node → slice_get pots j ≡ Some pot → (n : ℕ) → IsNext l rows (month_place month node.id.0) i n → Front l nodes rows n (pots_after pots j rows i n)
  next-pots i j node pot pots front at has n h =
      let s = h.row in
      let low = node-low l month nodes rows sums left rates go j node at in
      let parts = one_place s.month.0 month s.node.0 node.id.0 (each-got (λ (x : Statement). x.node.0 < 2 ^ 32) rows i s go.low h.got) low h.is_due in
      let more = take-next rows i s h.got in
      let sound : Each (λ s. is_sound_statement l s ≡ true) (take i rows ++ s ∷ []) = each-snoc (λ s. is_sound_statement l s ≡ true) (take i rows) s front.sound h.sound in
      let whole : (take i rows ++ s ∷ []) ++ drop (i + 1) rows ≡ l.statements = append_assoc (take i rows) (s ∷ []) (drop (i + 1) rows) ∙ (sym (split-at rows i s h.got) ∙ go.rows_are) in
      let fit : s.pot < 2 ^ 98 = each-last (λ x. x.pot < 2 ^ 98) (take i rows) s (fronts_fit l go.fit (take i rows ++ s ∷ []) (drop (i + 1) rows) whole go.rising sound) in
      let least_is : min s.pot (2 ^ 99) ≡ s.pot = omega arith in
      let later : nat_lt i (i + 1) ≡ true = grind (arith, nat_tests) in
      let after : pots_after pots j rows i (i + 1) ≡ slice_set pots j s.pot = ap (λ (b : Bool). if b then noted pots j (slice_get rows i) else pots) later ∙ (ap (noted pots j) h.got ∙ ap (λ (v : ℕ). slice_set pots j v) least_is) in
      let next : Front l nodes rows (i + 1) (slice_set pots j s.pot) = record {
        sound = subst (λ (xs : List Statement). Each (λ s. is_sound_statement l s ≡ true) xs) (sym more) sound;
        left_by = λ k other at_k. subst (λ (xs : List Statement). slice_get (slice_set pots j s.pot) k ≡ Some (last_pot 0 (of_node other.id xs))) (sym more) (pots-by i j node pot pots front at has s parts.1 k other at_k (j == k) refl);
      } in
      subst (λ (m : ℕ). Front l nodes rows m (pots_after pots j rows i m)) (sym h.one_more) (subst (λ (ps : List ℕ). Front l nodes rows (i + 1) ps) (sym after) next)
    where
      own-all : (own : Node) (s : Statement) (xs : List Statement) (b : Bool) → (s.node.0 == own.id.0) ≡ b → of_node own.id (xs ++ s ∷ []) ≡ of_node own.id xs ++ (if b then s ∷ [] else [])
      own-all own s xs b e = filter-append (λ (x : Statement). x.node.0 == own.id.0) xs (s ∷ []) ∙ ap (λ (c : Bool). of_node own.id xs ++ (if c then s ∷ [] else [])) e

      pots-by : (i j : ℕ) (node : Node) (pot : ℕ) (pots : List ℕ) → Front l nodes rows i pots → slice_get nodes j ≡ Some node → slice_get pots j ≡ Some pot → (s : Statement) → s.node.0 ≡ node.id.0
          → (k : ℕ) (other : Node) → slice_get nodes k ≡ Some other → (b : Bool) → (j == k) ≡ b → slice_get (slice_set pots j s.pot) k ≡ Some (last_pot 0 (of_node other.id (take i rows ++ s ∷ [])))
      pots-by i j node pot pots front at has s own k other at_k true e =
          let same : j ≡ k = grind (arith, nat_tests, e) in
          let is : node ≡ other = some-node node other (slice_get nodes k) (ap (λ (m : ℕ). slice_get nodes m) (sym same) ∙ at) at_k in
          let mine : (s.node.0 == other.id.0) ≡ true = let id : s.node.0 ≡ other.id.0 = own ∙ ap (λ (x : Node). x.id.0) is in grind (arith, nat_tests, id) in
          let last : last_pot 0 (of_node other.id (take i rows ++ s ∷ [])) ≡ s.pot = ap (last_pot 0) (own-all other s (take i rows) true mine) ∙ last_pot-behind 0 (of_node other.id (take i rows)) s in
          ap (λ (m : ℕ). slice_get (slice_set pots j s.pot) m) (sym same) ∙ (got-set pots j s.pot pot has ∙ ap Some (sym last))
      pots-by i j node pot pots front at has s own k other at_k false e =
          let apart : j ≡ k → ⊥ = λ same. differ same e in
          let not_mine : (s.node.0 == other.id.0) ≡ false = not-own (s.node.0 == other.id.0) refl (λ id. apart (ids-apart nodes j k node other (subst (λ (xs : List Node). IsRising node_rank xs) (sym go.nodes_are) go.numbered.rising) at at_k (sym own ∙ id))) in
          let stays : of_node other.id (take i rows ++ s ∷ []) ≡ of_node other.id (take i rows) = own-all other s (take i rows) false not_mine ∙ append-nil (of_node other.id (take i rows)) in
          got-other pots j k s.pot apart ∙ (front.left_by k other at_k ∙ ap (λ (xs : List Statement). Some (last_pot 0 xs)) (sym stays))
        where
          differ : j ≡ k → (j == k) ≡ false → ⊥
          differ same no_ = grind (arith, nat_tests, same, no_)

          not-own : (b : Bool) → (s.node.0 == other.id.0) ≡ b → (s.node.0 ≡ other.id.0 → ⊥) → b ≡ false
          not-own true e no_ = let id : s.node.0 ≡ other.id.0 = grind (arith, nat_tests, e) in absurd (no_ id)
          not-own false e no_ = refl

  pub front-next : (i j : ℕ) (node : Node) (pot : ℕ) (pots : List ℕ) → Front l nodes rows i pots → slice_get nodes j ≡ Some node → slice_get pots j ≡ Some pot → (n : ℕ) (b : Bool) → LooksOn b l rows (month_place month node.id.0) i n → Front l nodes rows n (pots_after pots j rows i n)
  front-next i j node pot pots front at has n true h = next-pots i j node pot pots front at has n h
  front-next i j node pot pots front at has n false h =
      let same : nat_lt i i ≡ false = grind (arith, nat_tests) in
      let stay : pots_after pots j rows i i ≡ pots = ap (λ (b : Bool). if b then noted pots j (slice_get rows i) else pots) same in
      subst (λ (m : ℕ). Front l nodes rows m (pots_after pots j rows i m)) (sym h) (subst (λ (ps : List ℕ). Front l nodes rows i ps) (sym stay) front)

pub walk-some : (good : ℕ → Statement → Bool) (i : ℕ) (rows : List Statement) (s : Statement) → slice_get rows i ≡ Some s → walk good i [] (drop i rows) ≡ Some (statement_rank s)
walk-some good i rows s got = ap (λ (xs : List Statement). walk good i [] xs) (rest-of rows i s got)

pub walk-none : (good : ℕ → Statement → Bool) (i : ℕ) (rows : List Statement) → slice_get rows i ≡ None → walk good i [] (drop i rows) ≡ None
walk-none good i rows none = ap (λ (xs : List Statement). walk good i [] xs) (none-left rows i none)
