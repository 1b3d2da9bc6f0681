-- One pass finds the least place that breaks the rule.
use Rattle.std.proofs.Common.{◌≡◌, ℕ, zero, suc, ◌+◌, ◌-◌, ◌^◌, ◌<◌, ◌≤◌, Bool, true, false, not, List, [], ◌∷◌, ◌++◌, Option, Some, None, refl, sym, ap, subst, ◌∙◌, arith}
use Rattle.std.specs.Prelude.{if◌then◌else◌, ◌==◌, ◌||◌, ◌&&◌, nat_lt, nat_le, filter, is_none}
use Rattle.std.specs.List.{list_any}
use Rattle.std.proofs.lemmas.Bool.Decides.{nat_tests}
use Rattle.std.proofs.lemmas.List.Elements.{filter-append}
use Rattle.std.proofs.lemmas.Bool.{and_parts}
use Rattle.rows.specs.Rows.{row_at, AllAbove, IsRising, Each}
use Rattle.node_registry.specs.declared.node.Node.{Node}
use Rattle.node_registry.specs.Registry.{node_rank, node_at}
use Rattle.tally_payout.specs.declared.amounts.Statement.{Statement}
use Rattle.tally_payout.specs.Ranks.{month_place, statement_rank}
use Rattle.month_pay.specs.Ledger.{Ledger, has_joined}
use Rattle.month_pay.specs.Rule.{follows, is_closed, is_sound_statement, bad_statements, missing_in, missing_from, broken_places}
use Rattle.month_pay.specs.Keeping.{AreNodes}
use Rattle.rows.specs.Least.{least}
use Rattle.month_pay.specs.Walk.{due_in, due_from, is_good, walk}
use Rattle.rows.proofs.Found.{rank-found}
use Rattle.month_pay.proofs.ListFacts.{each-weaker, rising-append}
use Rattle.month_pay.proofs.LeastLemmas.{In, From, least-of, from-append, in-front, in-back, in-first, from-above, none-in}
use Rattle.month_pay.proofs.Amounts.{each-filter}

-- ---- the pass

module _ (good : ℕ → Statement → Bool) where
  bads : ℕ → List Statement → List ℕ
  bads i [] = []
  bads i (s ∷ rest) = if good i s then bads (suc i) rest else statement_rank s ∷ bads (suc i) rest

  missing : List ℕ → List Statement → List ℕ
  missing keys rows = filter (λ k. is_none (row_at statement_rank rows k)) keys

  -- the places of good statements are due
  Within : ℕ → List ℕ → List Statement → Type 0
  Within i keys [] = Unit {0}
  Within i keys (s ∷ rest) = (good i s ≡ true → In (statement_rank s) keys) × Within (suc i) keys rest

  bads-from : (p i : ℕ) (rows : List Statement) → AllAbove statement_rank p rows → From p (bads i rows)
  unfolding bads
  bads-from p i [] above = tt
  bads-from p i (s ∷ rest) above = go (good i s) (bads-from p (suc i) rest above.1)
    where
      go : (b : Bool) → From p (bads (suc i) rest) → From p (if b then bads (suc i) rest else statement_rank s ∷ bads (suc i) rest)
      go true later = later
      go false later = (omega (arith, above.0), later)

  within-tail : (i k : ℕ) (keys : List ℕ) (rows : List Statement) → AllAbove statement_rank k rows → Within i (k ∷ keys) rows → Within i keys rows
  unfolding Within
  within-tail i k keys [] above within = tt
  within-tail i k keys (s ∷ rest) above within = (λ h. other (k == statement_rank s) refl (within.0 h), within-tail (suc i) k keys rest above.1 within.1)
    where
      other : (b : Bool) → (k == statement_rank s) ≡ b → (b || list_any (λ j. j == statement_rank s) keys) ≡ true → In (statement_rank s) keys
      other true e h = let same : k ≡ statement_rank s = grind (arith, nat_tests, e) in absurd (omega (arith, above.0, same))
      other false e h = h

  -- a row below all keys fills none of them
  missing-past : (s : Statement) (rest : List Statement) (keys : List ℕ) → AllAbove (λ k. k) (statement_rank s) keys → missing keys (s ∷ rest) ≡ missing keys rest
  unfolding missing
  missing-past s rest [] above = refl
  missing-past s rest (k ∷ keys) above = go (statement_rank s == k) refl (missing-past s rest keys above.1)
    where
      go : (b : Bool) → (statement_rank s == k) ≡ b → filter (λ j. is_none (row_at statement_rank (s ∷ rest) j)) keys ≡ filter (λ j. is_none (row_at statement_rank rest j)) keys
          → (if is_none (if b then Some s else row_at statement_rank rest k) then k ∷ filter (λ j. is_none (row_at statement_rank (s ∷ rest) j)) keys else filter (λ j. is_none (row_at statement_rank (s ∷ rest) j)) keys)
          ≡ (if is_none (row_at statement_rank rest k) then k ∷ filter (λ j. is_none (row_at statement_rank rest j)) keys else filter (λ j. is_none (row_at statement_rank rest j)) keys)
      go true e later = let same : statement_rank s ≡ k = grind (arith, nat_tests, e) in absurd (omega (arith, above.0, same))
      go false e later = rw later refl

  none-found : (n k : ℕ) (rows : List Statement) → AllAbove statement_rank n rows → k ≤ n → row_at statement_rank rows k ≡ None
  none-found n k [] above le = refl
  none-found n k (s ∷ rest) above le = grind (arith, nat_tests, above.0, le, none-found n k rest above.1 le)

  above-less : (n k : ℕ) (rows : List Statement) → k ≤ n → AllAbove statement_rank n rows → AllAbove statement_rank k rows
  above-less n k [] le above = tt
  above-less n k (s ∷ rest) le above = (omega (arith, above.0), above-less n k rest le above.1)

  keys-less : (n k : ℕ) (keys : List ℕ) → k ≤ n → AllAbove (λ j. j) n keys → AllAbove (λ j. j) k keys
  keys-less n k [] le above = tt
  keys-less n k (j ∷ keys) le above = (omega (arith, above.0), keys-less n k keys le above.1)

  first-missing : (k : ℕ) (keys : List ℕ) (rows : List Statement) → row_at statement_rank rows k ≡ None → missing (k ∷ keys) rows ≡ k ∷ missing keys rows
  unfolding missing
  first-missing k keys rows none = ap (λ (o : Option Statement). if is_none o then k ∷ filter (λ j. is_none (row_at statement_rank rows j)) keys else filter (λ j. is_none (row_at statement_rank rows j)) keys) none

  first-there : (s : Statement) (k : ℕ) (keys : List ℕ) (rest : List Statement) → statement_rank s ≡ k → missing (k ∷ keys) (s ∷ rest) ≡ missing keys (s ∷ rest)
  unfolding missing
  first-there s k keys rest e =
      let yes : (statement_rank s == k) ≡ true = grind (arith, nat_tests, e) in
      ap (λ (b : Bool). if is_none (if b then Some s else row_at statement_rank rest k) then k ∷ filter (λ j. is_none (row_at statement_rank (s ∷ rest) j)) keys else filter (λ j. is_none (row_at statement_rank (s ∷ rest) j)) keys) yes

  missing-from : (p : ℕ) (keys : List ℕ) (rows : List Statement) → From p keys → From p (missing keys rows)
  unfolding missing
  missing-from p keys rows from = each-filter (λ x. p ≤ x) (λ k. is_none (row_at statement_rank rows k)) keys from

  passes : (i : ℕ) (keys : List ℕ) (rows : List Statement) → IsRising (λ k. k) keys → IsRising statement_rank rows → Within i keys rows → walk good i keys rows ≡ least (bads i rows ++ missing keys rows)
  unfolding bads missing Within
  passes i [] [] rk rr within = refl
  passes i [] (s ∷ rest) rk rr within = go (good i s) within.0
    where
      go : (b : Bool) → (b ≡ true → In (statement_rank s) []) → Some (statement_rank s) ≡ least ((if b then bads (suc i) rest else statement_rank s ∷ bads (suc i) rest) ++ [])
      go true h = let no : false ≡ true = h refl in absurd cc
      go false h =
          let from : From (statement_rank s) ((statement_rank s ∷ bads (suc i) rest) ++ []) = from-append (statement_rank s) (statement_rank s ∷ bads (suc i) rest) [] (omega arith, bads-from (statement_rank s) (suc i) rest rr.0) tt in
          sym (least-of (statement_rank s) ((statement_rank s ∷ bads (suc i) rest) ++ []) from (in-front (statement_rank s) (statement_rank s ∷ bads (suc i) rest) [] (in-first (statement_rank s) (bads (suc i) rest))))
  passes i (k ∷ keys) [] rk rr within =
      sym (ap least (first-missing k keys [] refl) ∙ least-of k (k ∷ missing keys []) (omega arith, missing-from k keys [] (from-above k keys rk.0)) (in-first k (missing keys [])))
  passes i (k ∷ keys) (s ∷ rest) rk rr within =
      go (statement_rank s == k) refl (good i s) refl (nat_lt (statement_rank s) k) refl (λ above. passes (suc i) keys rest rk.1 rr.1 (within-tail (suc i) k keys rest above within.1))
    where
      all : List ℕ
      all = (if good i s then bads (suc i) rest else statement_rank s ∷ bads (suc i) rest) ++ missing (k ∷ keys) (s ∷ rest)

      bad-first : good i s ≡ false → (p : ℕ) → p ≡ statement_rank s → From p (missing (k ∷ keys) (s ∷ rest)) → least ((if good i s then bads (suc i) rest else statement_rank s ∷ bads (suc i) rest) ++ missing (k ∷ keys) (s ∷ rest)) ≡ Some p
      bad-first bad p e from =
          let is : bads i (s ∷ rest) ≡ statement_rank s ∷ bads (suc i) rest = ap (λ (b : Bool). if b then bads (suc i) rest else statement_rank s ∷ bads (suc i) rest) bad in
          let front : From p (statement_rank s ∷ bads (suc i) rest) = subst (λ (n : ℕ). From n (statement_rank s ∷ bads (suc i) rest)) (sym e) (omega arith, bads-from (statement_rank s) (suc i) rest rr.0) in
          let there : In p (statement_rank s ∷ bads (suc i) rest) = subst (λ (n : ℕ). In n (statement_rank s ∷ bads (suc i) rest)) (sym e) (in-first (statement_rank s) (bads (suc i) rest)) in
          ap (λ (xs : List ℕ). least (xs ++ missing (k ∷ keys) (s ∷ rest))) is
          ∙ least-of p ((statement_rank s ∷ bads (suc i) rest) ++ missing (k ∷ keys) (s ∷ rest)) (from-append p (statement_rank s ∷ bads (suc i) rest) (missing (k ∷ keys) (s ∷ rest)) front from) (in-front p (statement_rank s ∷ bads (suc i) rest) (missing (k ∷ keys) (s ∷ rest)) there)

      keys-from : (p : ℕ) → p ≤ k → From p (missing (k ∷ keys) (s ∷ rest))
      keys-from p le = missing-from p (k ∷ keys) (s ∷ rest) (le, each-weaker (λ x. k ≤ x) (λ x. p ≤ x) (λ x h. omega (arith, h, le)) keys (from-above k keys rk.0))

      bads-at : (p : ℕ) → p ≤ statement_rank s → From p (if good i s then bads (suc i) rest else statement_rank s ∷ bads (suc i) rest)
      bads-at p le = pick (good i s)
        where
          tail : From p (bads (suc i) rest)
          tail = bads-from p (suc i) rest (above-less (statement_rank s) p rest le rr.0)

          pick : (b : Bool) → From p (if b then bads (suc i) rest else statement_rank s ∷ bads (suc i) rest)
          pick true = tail
          pick false = (le, tail)

      go : (same : Bool) → (statement_rank s == k) ≡ same → (fine : Bool) → good i s ≡ fine → (lower : Bool) → nat_lt (statement_rank s) k ≡ lower
          → (AllAbove statement_rank k rest → walk good (suc i) keys rest ≡ least (bads (suc i) rest ++ missing keys rest))
          → (if same then (if fine then walk good (suc i) keys rest else Some k) else (if lower then Some (statement_rank s) else Some k)) ≡ least ((if good i s then bads (suc i) rest else statement_rank s ∷ bads (suc i) rest) ++ missing (k ∷ keys) (s ∷ rest))
      go true e true f lower g later =
          let is : statement_rank s ≡ k = grind (arith, nat_tests, e) in
          let gone : missing (k ∷ keys) (s ∷ rest) ≡ missing keys rest = first-there s k keys rest is ∙ missing-past s rest keys (keys-less k (statement_rank s) keys (omega (arith, is)) rk.0) in
          let kept : (if good i s then bads (suc i) rest else statement_rank s ∷ bads (suc i) rest) ≡ bads (suc i) rest = ap (λ (b : Bool). if b then bads (suc i) rest else statement_rank s ∷ bads (suc i) rest) f in
          later (subst (λ (n : ℕ). AllAbove statement_rank n rest) is rr.0) ∙ sym (ap (λ (xs : List ℕ). least (xs ++ missing (k ∷ keys) (s ∷ rest))) kept ∙ ap (λ (ys : List ℕ). least (bads (suc i) rest ++ ys)) gone)
      go true e false f lower g later =
          let is : statement_rank s ≡ k = grind (arith, nat_tests, e) in
          sym (bad-first f k (sym is) (keys-from k (omega arith)))
      go false e true f true g later =
          let lt : statement_rank s < k = grind (arith, nat_tests, g) in
          absurd (none-in (statement_rank s) (statement_rank s) (k ∷ keys) (lt, keys-less k (statement_rank s) keys (omega (arith, lt)) rk.0) (omega arith) (within.0 f))
      go false e false f true g later =
          let lt : statement_rank s < k = grind (arith, nat_tests, g) in
          sym (bad-first f (statement_rank s) refl (keys-from (statement_rank s) (omega (arith, lt))))
      go false e fine f false g later =
          let gt : k < statement_rank s = grind (arith, nat_tests, e, g) in
          let none : row_at statement_rank (s ∷ rest) k ≡ None = none-found k k (s ∷ rest) (gt, above-less (statement_rank s) k rest (omega (arith, gt)) rr.0) (omega arith) in
          let first = first-missing k keys (s ∷ rest) none in
          let rows = if good i s then bads (suc i) rest else statement_rank s ∷ bads (suc i) rest in
          let from : From k (rows ++ missing (k ∷ keys) (s ∷ rest)) = from-append k rows (missing (k ∷ keys) (s ∷ rest)) (bads-at k (omega (arith, gt))) (keys-from k (omega arith)) in
          let there : In k (missing (k ∷ keys) (s ∷ rest)) = subst (λ (xs : List ℕ). In k xs) (sym first) (in-first k (missing keys (s ∷ rest))) in
          sym (least-of k (rows ++ missing (k ∷ keys) (s ∷ rest)) from (in-back k rows (missing (k ∷ keys) (s ∷ rest)) there))

-- ---- the places that are due

module _ (cap : ℕ) (l : Ledger) (nodes : AreNodes l.nodes) where
  place_lt : (month a b : ℕ) → a < b → month_place month a < month_place month b
  place_lt month a b h = omega arith

  due-above : (month n : ℕ) (xs : List Node) → AllAbove node_rank n xs → AllAbove (λ k. k) (month_place month n) (due_in month xs)
  due-above month n [] above = tt
  due-above month n (node ∷ rest) above = go (has_joined month node) (due-above month n rest above.1)
    where
      go : (b : Bool) → AllAbove (λ k. k) (month_place month n) (due_in month rest) → AllAbove (λ k. k) (month_place month n) (if b then month_place month node.id.0 ∷ due_in month rest else due_in month rest)
      go true later = (place_lt month n node.id.0 above.0, later)
      go false later = later

  due-rise : (month : ℕ) (xs : List Node) → IsRising node_rank xs → IsRising (λ k. k) (due_in month xs)
  due-rise month [] rising = tt
  due-rise month (node ∷ rest) rising = go (has_joined month node) (due-rise month rest rising.1)
    where
      go : (b : Bool) → IsRising (λ k. k) (due_in month rest) → IsRising (λ k. k) (if b then month_place month node.id.0 ∷ due_in month rest else due_in month rest)
      go true later = (due-above month node.id.0 rest rising.0, later)
      go false later = later

  due-low : (month : ℕ) (xs : List Node) → Each (λ node. node.id.0 < 2 ^ 32) xs → Each (λ k. k ≤ month_place (suc month) 0) (due_in month xs)
  due-low month [] low = tt
  due-low month (node ∷ rest) low = go (has_joined month node) (due-low month rest low.1)
    where
      go : (b : Bool) → Each (λ k. k ≤ month_place (suc month) 0) (due_in month rest) → Each (λ k. k ≤ month_place (suc month) 0) (if b then month_place month node.id.0 ∷ due_in month rest else due_in month rest)
      go true later = (omega (arith, low.0), later)
      go false later = later

  place_mono : (a b : ℕ) → a ≤ b → month_place a 0 ≤ month_place b 0
  place_mono a b h = omega arith

  above-append : (n : ℕ) (xs ys : List ℕ) → AllAbove (λ k. k) n xs → AllAbove (λ k. k) n ys → AllAbove (λ k. k) n (xs ++ ys)
  above-append n [] ys a b = b
  above-append n (x ∷ xs) ys a b = (a.0, above-append n xs ys a.1 b)

  less : (n k : ℕ) (keys : List ℕ) → k ≤ n → AllAbove (λ j. j) n keys → AllAbove (λ j. j) k keys
  less n k [] le above = tt
  less n k (j ∷ keys) le above = (omega (arith, above.0), less n k keys le above.1)

  from-above-all : (n month : ℕ) → AllAbove (λ k. k) (month_place month 0) (due_from l.nodes n month)
  from-above-all zero month = tt
  from-above-all (suc n) month = above-append (month_place month 0) (due_in month l.nodes) (due_from l.nodes n (suc month)) (due-above month 0 l.nodes nodes.some) (less (month_place (suc month) 0) (month_place month 0) (due_from l.nodes n (suc month)) (place_mono month (suc month) (omega arith)) (from-above-all n (suc month)))

  all-rise : (n month : ℕ) → IsRising (λ k. k) (due_from l.nodes n month)
  all-rise zero month = tt
  all-rise (suc n) month = rising-append (λ k. k) (due_in month l.nodes) (due_from l.nodes n (suc month)) (month_place (suc month) 0) (due-rise month l.nodes nodes.rising) (all-rise n (suc month)) (due-low month l.nodes nodes.low) (from-above-all n (suc month))

  -- the missing ones are those of the rule
  missing-in : (rows : List Statement) (month : ℕ) (xs : List Node) → missing_in rows month xs ≡ filter (λ k. is_none (row_at statement_rank rows k)) (due_in month xs)
  missing-in rows month [] = refl
  missing-in rows month (node ∷ rest) = go (has_joined month node) (is_none (row_at statement_rank rows (month_place month node.id.0))) refl (missing-in rows month rest)
    where
      go : (joined gone : Bool) → is_none (row_at statement_rank rows (month_place month node.id.0)) ≡ gone → missing_in rows month rest ≡ filter (λ k. is_none (row_at statement_rank rows k)) (due_in month rest)
          → (if joined && gone then month_place month node.id.0 ∷ missing_in rows month rest else missing_in rows month rest) ≡ filter (λ k. is_none (row_at statement_rank rows k)) (if joined then month_place month node.id.0 ∷ due_in month rest else due_in month rest)
      go true true e later = rw (e, later) refl
      go true false e later = rw (e, later) refl
      go false gone e later = later

  missing-all : (rows : List Statement) (n month : ℕ) → missing_from rows l.nodes n month ≡ filter (λ k. is_none (row_at statement_rank rows k)) (due_from l.nodes n month)
  missing-all rows zero month = refl
  missing-all rows (suc n) month =
      ap (λ (xs : List ℕ). xs ++ missing_from rows l.nodes n (suc month)) (missing-in rows month l.nodes)
      ∙ (ap (λ (ys : List ℕ). filter (λ k. is_none (row_at statement_rank rows k)) (due_in month l.nodes) ++ ys) (missing-all rows n (suc month))
      ∙ sym (filter-append (λ k. is_none (row_at statement_rank rows k)) (due_in month l.nodes) (due_from l.nodes n (suc month))))

  bads-are : (i : ℕ) (rows : List Statement) → bad_statements cap l i rows ≡ bads (is_good cap l) i rows
  unfolding bads
  bads-are i [] = refl
  bads-are i (s ∷ rest) = go (nat_le cap i || not (is_sound_statement l s)) (bads-are (suc i) rest)
    where
      go : (b : Bool) → bad_statements cap l (suc i) rest ≡ bads (is_good cap l) (suc i) rest
          → (if b then statement_rank s ∷ bad_statements cap l (suc i) rest else bad_statements cap l (suc i) rest) ≡ (if not b then bads (is_good cap l) (suc i) rest else statement_rank s ∷ bads (is_good cap l) (suc i) rest)
      go true later = ap (λ (xs : List ℕ). statement_rank s ∷ xs) later
      go false later = later

  -- a sound statement is due
  in-month : (node : Node) (month k : ℕ) (xs : List Node) → row_at node_rank xs k ≡ Some node → has_joined month node ≡ true → In (month_place month node.id.0) (due_in month xs)
  in-month node month k [] at joined = absurd cc
  in-month node month k (x ∷ xs) at joined = go (node_rank x == k) at (in-month node month k xs)
    where
      more : (b : Bool) → In (month_place month node.id.0) (due_in month xs) → In (month_place month node.id.0) (if b then month_place month x.id.0 ∷ due_in month xs else due_in month xs)
      more true h = or-true (month_place month x.id.0 == month_place month node.id.0) (list_any (λ j. j == month_place month node.id.0) (due_in month xs)) h
        where
          or-true : (a b : Bool) → b ≡ true → (a || b) ≡ true
          or-true true b e = refl
          or-true false b e = e
      more false h = h

      go : (b : Bool) → (if b then Some x else row_at node_rank xs k) ≡ Some node → (row_at node_rank xs k ≡ Some node → has_joined month node ≡ true → In (month_place month node.id.0) (due_in month xs)) → In (month_place month node.id.0) (due_in month (x ∷ xs))
      go true h later =
          let same : node ≡ x = cc in
          let joined_x : has_joined month x ≡ true = subst (λ (y : Node). has_joined month y ≡ true) same joined in
          subst (λ (y : Node). In (month_place month y.id.0) (due_in month (x ∷ xs))) (sym same)
          (ap (λ (b : Bool). list_any (λ j. j == month_place month x.id.0) (if b then month_place month x.id.0 ∷ due_in month xs else due_in month xs)) joined_x ∙ in-first (month_place month x.id.0) (due_in month xs))
      go false h later = more (has_joined month x) (later h joined)

  in-all : (node : Node) (month n first k : ℕ) → row_at node_rank l.nodes k ≡ Some node → has_joined month node ≡ true → first ≤ month → month < first + n → In (month_place month node.id.0) (due_from l.nodes n first)
  in-all node month zero first k at joined le lt = absurd (omega arith)
  in-all node month (suc n) first k at joined le lt = go (first == month) refl (λ ge. in-all node month n (suc first) k at joined ge (omega arith))
    where
      go : (b : Bool) → (first == month) ≡ b → (suc first ≤ month → In (month_place month node.id.0) (due_from l.nodes n (suc first))) → In (month_place month node.id.0) (due_in first l.nodes ++ due_from l.nodes n (suc first))
      go true e later =
          let same : month ≡ first = grind (arith, nat_tests, e) in
          let here : In (month_place month node.id.0) (due_in month l.nodes) = in-month node month k l.nodes at joined in
          in-front (month_place month node.id.0) (due_in first l.nodes) (due_from l.nodes n (suc first)) (subst (λ (m : ℕ). In (month_place month node.id.0) (due_in m l.nodes)) same here)
      go false e later = let other : suc first ≤ month = grind (arith, nat_tests, e) in in-back (month_place month node.id.0) (due_in first l.nodes) (due_from l.nodes n (suc first)) (later other)

  sound-due : (s : Statement) → is_sound_statement l s ≡ true → In (statement_rank s) (due_from l.nodes (l.next - l.first) l.first)
  unfolding follows
  sound-due s sound =
      let parts = and_parts (is_closed l s.month.0) (follows l s (node_at l.nodes s.node)) sound in
      let within = parts.0 in
      let le : l.first ≤ s.month.0 = grind (arith, nat_tests, within) in
      let lt : s.month.0 < l.next = grind (arith, nat_tests, within) in
      go le lt (node_at l.nodes s.node) refl parts.1
    where
      go : l.first ≤ s.month.0 → s.month.0 < l.next → (found : Option Node) → node_at l.nodes s.node ≡ found → follows l s found ≡ true → In (statement_rank s) (due_from l.nodes (l.next - l.first) l.first)
      go le lt None at h = cc
      go le lt (Some node) at h =
          let joined : has_joined s.month.0 node ≡ true = (and_parts (has_joined s.month.0 node) _ h).0 in
          let same : node.id.0 ≡ s.node.0 = rank-found node_rank l.nodes s.node.0 node at in
          subst (λ (k : ℕ). In (month_place s.month.0 k) (due_from l.nodes (l.next - l.first) l.first)) same (in-all node s.month.0 (l.next - l.first) l.first s.node.0 at joined le (omega arith))

  good-due : (i : ℕ) (rows : List Statement) → Within (is_good cap l) i (due_from l.nodes (l.next - l.first) l.first) rows
  unfolding Within
  good-due i [] = tt
  good-due i (s ∷ rest) = (λ good. sound-due s (good-sound (nat_le cap i) (is_sound_statement l s) good), good-due (suc i) rest)
    where
      good-sound : (full sound : Bool) → not (full || not sound) ≡ true → sound ≡ true
      good-sound true sound h = cc
      good-sound false true h = refl
      good-sound false false h = cc

  pub walk_finds : IsRising statement_rank l.statements → walk (is_good cap l) 0 (due_from l.nodes (l.next - l.first) l.first) l.statements ≡ least (broken_places cap l)
  unfolding broken_places missing
  walk_finds rising =
      passes (is_good cap l) 0 (due_from l.nodes (l.next - l.first) l.first) l.statements (all-rise (l.next - l.first) l.first) rising (good-due 0 l.statements)
      ∙ (ap (λ (xs : List ℕ). least (xs ++ filter (λ k. is_none (row_at statement_rank l.statements k)) (due_from l.nodes (l.next - l.first) l.first))) (sym (bads-are 0 l.statements))
      ∙ ap (λ (ys : List ℕ). least (bad_statements cap l 0 l.statements ++ ys)) (sym (missing-all l.statements (l.next - l.first) l.first)))
