-- What a look-up, a pair more and a pair less do to the pairs.
use Rattle.std.proofs.Common.{◌≡◌, ℕ, ◌^◌, ◌<◌, ◌≤◌, true, false, not, ◌&&◌, ◌||◌, List, [], ◌∷◌, Option, Some, None, is_some, IsSome, inl, inr, Bor, option_copied, refl, sym, ap, subst, ◌∙◌, arith}
use Rattle.std.specs.Prelude.{◌==◌, slice_get}
use Rattle.std.proofs.lemmas.Bool.Decides.{nat_tests}
use Rattle.rows.specs.Rows.{row_at, first_above, without, AllAbove, IsRising}
use Rattle.std.specs.List.{list_any}
use Rattle.std.proofs.lemmas.Bool.{or_cases, false_from_ne_true}
use Rattle.rows.specs.Slots.{Slots, has_slot, with_row, without_slot, released}
use Rattle.segment_index.specs.declared.pairs.Pair.{Pair}
use Rattle.segment_index.specs.Pairs.{pair_rank, is_same, has, AreWithin, IsNoLater, IsFirst, IsNext}

-- ---- one pair and another

-- the ranks are equal exactly where the pairs are
rank_test : (a b : Pair) → a.low < 2 ^ 64 → b.low < 2 ^ 64 → (pair_rank a == pair_rank b) ≡ is_same a b
unfolding pair_rank
rank_test a b la lb = grind (arith, nat_tests)

same_high : (a b : Pair) → is_same a b ≡ true → a.high ≡ b.high
same_high a b same = grind (arith, nat_tests)

same_low : (a b : Pair) → is_same a b ≡ true → a.low ≡ b.low
same_low a b same = grind (arith, nat_tests)

same_rank : (a b : Pair) → is_same a b ≡ true → pair_rank a ≡ pair_rank b
unfolding pair_rank
same_rank a b same = omega (arith, same_high a b same, same_low a b same)

same_self : (a : Pair) → is_same a a ≡ true
same_self a = grind (arith, nat_tests)

same_like : (a b q : Pair) → is_same a b ≡ true → is_same a q ≡ is_same b q
same_like a b q same = rw (same_high a b same, same_low a b same) refl

-- the ranks order them
rank_order : (a b : Pair) → a.low < 2 ^ 64 → b.low < 2 ^ 64 → pair_rank a < pair_rank b → IsNoLater a b
unfolding pair_rank
rank_order a b la lb lt = (omega (arith, lt), λ e. omega (arith, lt, e))

-- ---- a pair more and a pair less

pub has-put : (rows : List Pair) (p q : Pair) → AreWithin rows → p.low < 2 ^ 64 → has (with_row pair_rank rows p) q ≡ (is_same p q || has rows q)
has-put [] p q within lp = refl
has-put (first ∷ rest) p q within lp = grind (arith, nat_tests, rank_test p first lp within.0, same_like p first q, has-put rest p q within.1 lp)

pub has-remove : (rows : List Pair) (p q : Pair) → AreWithin rows → p.low < 2 ^ 64 → has (without pair_rank rows (pair_rank p)) q ≡ (not (is_same p q) && has rows q)
has-remove [] p q within lp = grind (arith, nat_tests)
has-remove (first ∷ rest) p q within lp = grind (arith, nat_tests, rank_test first p within.0 lp, same_like first p q, has-remove rest p q within.1 lp)

pub within-put : (rows : List Pair) (p : Pair) → AreWithin rows → p.low < 2 ^ 64 → AreWithin (with_row pair_rank rows p)
within-put [] p within lp = (lp, tt)
within-put (first ∷ rest) p within lp = grind (arith, nat_tests, within.0, within.1, lp, within-put rest p within.1 lp)

pub within-remove : (rows : List Pair) (k : ℕ) → AreWithin rows → AreWithin (without pair_rank rows k)
within-remove [] k within = tt
within-remove (first ∷ rest) k within = grind (arith, nat_tests, within.0, within-remove rest k within.1)

-- ---- look-ups

pub found-has : (rows : List Pair) (p : Pair) → AreWithin rows → p.low < 2 ^ 64 → is_some (row_at pair_rank rows (pair_rank p)) ≡ has rows p
found-has [] p within lp = refl
found-has (first ∷ rest) p within lp = grind (arith, nat_tests, rank_test first p within.0 lp, found-has rest p within.1 lp)

pub copied_some : {X : Type 0} (at : Option (Bor X)) → is_some (option_copied at) ≡ is_some at
copied_some None = refl
copied_some (Some b) = refl

pub none_found : {X : Type 0} (at : Option X) → is_some at ≡ false → at ≡ None
none_found None h = refl
none_found (Some x) h = cc

above_has : (rows : List Pair) (n : ℕ) (q : Pair) → AllAbove pair_rank n rows → has rows q ≡ true → n < pair_rank q
above_has [] n q above h = absurd cc
above_has (first ∷ rest) n q above h = elim (or_cases (is_same first q) (has rest q) h) [
  | inl same ↦ rw (← same_rank first q same) above.0
  | inr behind ↦ above_has rest n q above.1 behind
]

within_has : (rows : List Pair) (q : Pair) → AreWithin rows → has rows q ≡ true → q.low < 2 ^ 64
within_has [] q within h = absurd cc
within_has (first ∷ rest) q within h = elim (or_cases (is_same first q) (has rest q) h) [
  | inl same ↦ rw (← same_low first q same) within.0
  | inr behind ↦ within_has rest q within.1 behind
]

pub first_is : (rows : List Pair) → IsRising pair_rank rows → AreWithin rows → IsFirst rows (slice_get rows 0)
first_is [] rising within = λ other. refl
first_is (p ∷ rest) rising within = (
  grind (arith, nat_tests, same_self p),
  λ other h. elim (or_cases (is_same p other) (has rest other) h) [
    | inl same ↦ (omega (arith, same_high p other same), λ e. omega (arith, same_low p other same))
    | inr behind ↦ rank_order p other within.0 (within_has rest other within.1 behind) (above_has rest (pair_rank p) other rising.0 behind)
  ],
)

-- ---- the first pair above a rank

next_has : (rows : List Pair) (k : ℕ) (r : Pair) → first_above pair_rank rows k ≡ Some r → has rows r ≡ true
next_has [] k r is = absurd cc
next_has (first ∷ rest) k r is = grind (arith, nat_tests, is, same_self r, next_has rest k r)

next_behind : (rows : List Pair) (k : ℕ) (r : Pair) → first_above pair_rank rows k ≡ Some r → k < pair_rank r
next_behind [] k r is = absurd cc
next_behind (first ∷ rest) k r is = grind (arith, nat_tests, is, next_behind rest k r)

next_none : (rows : List Pair) (k : ℕ) (q : Pair) → first_above pair_rank rows k ≡ None → has rows q ≡ true → k < pair_rank q → ⊥
next_none [] k q none h lt = cc
next_none (first ∷ rest) k q none h lt = grind (arith, nat_tests, none, h, lt, same_rank first q, next_none rest k q)

next_least : (rows : List Pair) (k : ℕ) (q r : Pair) → IsRising pair_rank rows → first_above pair_rank rows k ≡ Some r → has rows q ≡ true → k < pair_rank q → pair_rank r ≤ pair_rank q
next_least [] k q r rising is h lt = absurd cc
next_least (first ∷ rest) k q r rising is h lt =
    let behind : has rest q ≡ true → pair_rank first < pair_rank q = λ (b : has rest q ≡ true). above_has rest (pair_rank first) q rising.0 b in
    grind (arith, nat_tests, is, h, lt, same_rank first q, behind, next_least rest k q r rising.1)

module _ (rows : List Pair) (high bound : ℕ) (rising : IsRising pair_rank rows) (within : AreWithin rows) (lb : bound < 2 ^ 64) where
  abbrev from : Pair
  from = record { high = high; low = bound }

  -- a pair with that first number and a greater second one comes behind
  behind : (low : ℕ) → bound < low → pair_rank from < pair_rank (record { high = high; low = low })
  unfolding pair_rank
  behind low lt = omega (arith, lt)

  pub none_next : first_above pair_rank rows (pair_rank from) ≡ None → IsNext rows high bound None
  none_next none low lt = false_from_ne_true (has rows (record { high = high; low = low })) (λ h. next_none rows (pair_rank from) (record { high = high; low = low }) none h (behind low lt))

  -- a pair between two with one first number has it too
  between : (r : Pair) (low : ℕ) → r.low < 2 ^ 64 → low < 2 ^ 64 → pair_rank from < pair_rank r → pair_rank r ≤ pair_rank (record { high = high; low = low }) → r.high ≡ high
  unfolding pair_rank
  between r low lr ll after until = omega (arith, after, until)

  pub other_next : (r : Pair) → first_above pair_rank rows (pair_rank from) ≡ Some r → (r.high ≡ high → ⊥) → IsNext rows high bound None
  other_next r is other low lt = false_from_ne_true (has rows (record { high = high; low = low })) (λ h.
      other (between r low (within_has rows r within (next_has rows (pair_rank from) r is)) (within_has rows (record { high = high; low = low }) within h)
      (next_behind rows (pair_rank from) r is) (next_least rows (pair_rank from) (record { high = high; low = low }) r rising is h (behind low lt))))

  lows_follow : (r : Pair) → r.high ≡ high → pair_rank from < pair_rank r → bound < r.low
  unfolding pair_rank
  lows_follow r e lt = omega (arith, e, lt)

  lows_least : (r : Pair) (low : ℕ) → r.high ≡ high → pair_rank r ≤ pair_rank (record { high = high; low = low }) → r.low ≤ low
  unfolding pair_rank
  lows_least r low e le = omega (arith, e, le)

  pub some_next : (r : Pair) → first_above pair_rank rows (pair_rank from) ≡ Some r → r.high ≡ high → IsNext rows high bound (Some r.low)
  some_next r is e = (
    lows_follow r e (next_behind rows (pair_rank from) r is),
    rw (← e) (next_has rows (pair_rank from) r is),
    λ low lt h. lows_least r low e (next_least rows (pair_rank from) (record { high = high; low = low }) r rising is h (behind low lt)),
  )

-- ---- slots

-- what is not there is not there after a slot less
fewer_slots : (slots : List ℕ) (k j : ℕ) → list_any (λ slot. slot == j) slots ≡ false → list_any (λ slot. slot == j) (without_slot slots k) ≡ false
fewer_slots [] k j none = refl
fewer_slots (slot ∷ rest) k j none = grind (arith, nat_tests, none, fewer_slots rest k j)

-- a release makes no slot
pub no_slot_more : {R : Type 0} (rank : R → ℕ) (old new : Slots R) (at : ℕ) → (row_at rank old.rows at ≡ None → new ≡ released old at) → (IsSome (row_at rank old.rows at) → new ≡ old)
    → (k : ℕ) → has_slot old k ≡ false → has_slot new k ≡ false
no_slot_more {R} rank old new at freed kept k none = go (row_at rank old.rows at) refl
  where
    go : (found : Option R) → row_at rank old.rows at ≡ found → has_slot new k ≡ false
    go None is = ap (λ (t : Slots R). has_slot t k) (freed is) ∙ fewer_slots old.slots at k none
    go (Some row) is = ap (λ (t : Slots R). has_slot t k) (kept (subst (λ (o : Option R). IsSome o) (sym is) refl)) ∙ none
