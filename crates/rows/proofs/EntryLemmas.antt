-- What a look-up, a row more and a row less do to the entries of a table, and to the rows that they stand for.
use Rattle.std.proofs.Common.{◌≡◌, ℕ, ◌+◌, ◌<◌, ◌≤◌, true, false, List, [], ◌∷◌, length, Option, Some, None, is_some, IsSome, Bor, option_copied, rules, refl, sym, ◌∙◌, ap, subst, arith}
use Rattle.std.specs.Ordering.{nat_cmp}
use Rattle.std.specs.Prelude.{◌==◌, slice_get}
use Rattle.std.specs.List.{list_any}
use Rattle.std.specs.BTreeMap.{insert_entry, is_at}
use Rattle.std.specs.BTreeMap.Range.{entries_between}
use Rattle.std.specs.declared.ops.Bound.TheVariants.{Excluded, Unbounded}
use Rattle.std.specs.Map.{keys_of, values_of, lookup, remove_entry}
use Rattle.std.proofs.lemmas.Bool.Decides.{nat_tests}
use Rattle.rows.specs.Slots.{has_slot, with_row, with_slot, without_slot, released}
use Rattle.rows.specs.Rows.{row_at, first_above, without, AllAbove, IsRising}
use Rattle.rows.proofs.Rising.{above_less, none_above}
use Rattle.rows.proofs.Lengths.{without_none, without_above}
use Rattle.rows.specs.Entries.{kept, kept_values, flat, taken, Fits, KeysAbove, StandsAt, IsKept, slots_of}

module _ {R : Type 0} (rank : R → ℕ) where
  -- keys above n have rows above n
  pub rows_above : (es : List (ℕ × Option R)) (n : ℕ) → KeysAbove n es → IsKept rank es → AllAbove rank n (kept es)
  rows_above [] n above fit = tt
  rows_above ((key, None) ∷ es) n above fit = rows_above es n above.1 fit.2
  rows_above ((key, Some row) ∷ es) n above fit = (omega (arith, fit.0, above.0), rows_above es n above.1 fit.2)

  -- the rows rise
  pub rows_rise : (es : List (ℕ × Option R)) → IsKept rank es → IsRising rank (kept es)
  rows_rise [] fit = tt
  rows_rise ((key, None) ∷ es) fit = rows_rise es fit.2
  rows_rise ((key, Some row) ∷ es) fit = (rows_above es (rank row) (rw fit.0 fit.1) fit.2, rows_rise es fit.2)

  -- a look-up among the entries finds the row of that rank
  pub looked_up : (es : List (ℕ × Option R)) (k : ℕ) → IsKept rank es → row_at rank (kept es) k ≡ flat (lookup (is_at (nat_cmp k)) es)
  looked_up [] k fit = refl
  looked_up ((key, None) ∷ es) k fit =
      let none : k ≤ key → row_at rank (kept es) k ≡ None = λ le. none_above rank (kept es) key k (rows_above es key fit.1 fit.2) le in
      grind (arith, nat_tests, looked_up es k fit.2, none)
  looked_up ((key, Some row) ∷ es) k fit = grind (arith, nat_tests, fit.0, looked_up es k fit.2)

  -- the first row behind a key stands above it
  pub next_kept : (es : List (ℕ × Option R)) (k : ℕ) → IsKept rank es → first_above rank (kept es) k ≡ slice_get (kept (entries_between nat_cmp (Excluded k) Unbounded es)) 0
  next_kept [] k fit = refl
  next_kept ((key, None) ∷ es) k fit = grind (arith, nat_tests, next_kept es k fit.2)
  next_kept ((key, Some row) ∷ es) k fit = grind (arith, nat_tests, fit.0, next_kept es k fit.2)

  -- a row below all goes to the front
  pub put_front : (rows : List R) (row : R) → AllAbove rank (rank row) rows → with_row rank rows row ≡ row ∷ rows
  put_front [] row above = refl
  put_front (first ∷ rows) row above = grind (arith, nat_tests, above.0)

  -- a row that is put into its slot is put among the rows
  pub kept-put : (es : List (ℕ × Option R)) (row : R) (k : ℕ) → rank row ≡ k → IsKept rank es → kept (insert_entry nat_cmp es k (Some row)) ≡ with_row rank (kept es) row
  kept-put [] row k e fit = refl
  kept-put ((key, None) ∷ es) row k e fit =
      let front : k ≤ key → with_row rank (kept es) row ≡ row ∷ kept es = λ le. put_front (kept es) row (above_less rank key (rank row) (kept es) (omega arith) (rows_above es key fit.1 fit.2)) in
      grind (arith, nat_tests, kept-put es row k e fit.2, front)
  kept-put ((key, Some other) ∷ es) row k e fit = grind (arith, nat_tests, fit.0, kept-put es row k e fit.2)

  -- an empty slot shows no row
  pub kept-place : (es : List (ℕ × Option R)) (k : ℕ) → lookup (is_at (nat_cmp k)) es ≡ None → kept (insert_entry nat_cmp es k None) ≡ kept es
  kept-place [] k none = refl
  kept-place ((key, None) ∷ es) k none = grind (arith, nat_tests, kept-place es k)
  kept-place ((key, Some row) ∷ es) k none = grind (arith, nat_tests, kept-place es k)

  -- what is above n is above what is below n
  pub keys_lower : (es : List (ℕ × Option R)) (n m : ℕ) → m ≤ n → KeysAbove n es → KeysAbove m es
  keys_lower [] n m le above = tt
  keys_lower ((key, value) ∷ es) n m le above = (omega (arith, above.0), keys_lower es n m le above.1)

  -- a new key above n leaves the keys above n
  pub keys_above_insert : (es : List (ℕ × Option R)) (n k : ℕ) (v : Option R) → KeysAbove n es → n < k → KeysAbove n (insert_entry nat_cmp es k v)
  keys_above_insert [] n k v above lt = (lt, tt)
  keys_above_insert ((key, value) ∷ es) n k v above lt = grind (arith, nat_tests, above, keys_above_insert es n k v above.1 lt)

  -- the keys still rise, and each row stands at its rank
  pub is_kept-insert : (es : List (ℕ × Option R)) (k : ℕ) (v : Option R) → StandsAt rank k v → IsKept rank es → IsKept rank (insert_entry nat_cmp es k v)
  is_kept-insert [] k v stands fit = (stands, tt, tt)
  is_kept-insert ((key, value) ∷ es) k v stands fit =
      let lower : k < key → KeysAbove k es = λ lt. keys_lower es key k (omega arith) fit.1 in
      let here : k ≡ key → StandsAt rank key v = λ e. subst (λ q. StandsAt rank q v) e stands in
      grind (arith, nat_tests, stands, fit.0, fit.1, fit.2, lower, here, is_kept-insert es k v stands fit.2, keys_above_insert es key k v fit.1)

  -- fewer keys are above n too
  pub keys_above_remove : (es : List (ℕ × Option R)) (n k : ℕ) → KeysAbove n es → KeysAbove n (remove_entry (is_at (nat_cmp k)) es)
  keys_above_remove [] n k above = tt
  keys_above_remove ((key, value) ∷ es) n k above = grind (arith, nat_tests, above.0, above.1, keys_above_remove es n k above.1)

  -- and still rise
  pub is_kept-remove : (es : List (ℕ × Option R)) (k : ℕ) → IsKept rank es → IsKept rank (remove_entry (is_at (nat_cmp k)) es)
  is_kept-remove [] k fit = tt
  is_kept-remove ((key, value) ∷ es) k fit = grind (arith, nat_tests, fit.0, fit.1, fit.2, is_kept-remove es k fit.2, keys_above_remove es key k fit.1)

  -- an entry less is a row less
  pub kept-remove : (es : List (ℕ × Option R)) (k : ℕ) → IsKept rank es → kept (remove_entry (is_at (nat_cmp k)) es) ≡ without rank (kept es) k
  kept-remove [] k fit = refl
  kept-remove ((key, None) ∷ es) k fit =
      let stay : k ≤ key → without rank (kept es) k ≡ kept es = λ le. without_above rank (kept es) key k (rows_above es key fit.1 fit.2) le in
      grind (arith, nat_tests, kept-remove es k fit.2, stay)
  kept-remove ((key, Some row) ∷ es) k fit =
      let stay : k ≤ key → without rank (kept es) k ≡ kept es = λ le. without_above rank (kept es) key k (rows_above es key fit.1 fit.2) le in
      grind (arith, nat_tests, fit.0, kept-remove es k fit.2, stay)

  -- keys above n have none up to n
  pub no_key_above : (es : List (ℕ × Option R)) (n k : ℕ) → KeysAbove n es → k ≤ n → lookup (is_at (nat_cmp k)) es ≡ None
  no_key_above [] n k above le = refl
  no_key_above ((key, value) ∷ es) n k above le = grind (arith, nat_tests, above.0, no_key_above es n k above.1 le)

  -- one row more, where the slot had none
  pub count-put : (es : List (ℕ × Option R)) (row : R) (k : ℕ) → IsKept rank es → length (kept (insert_entry nat_cmp es k (Some row))) + taken (lookup (is_at (nat_cmp k)) es) ≡ length (kept es) + 1
  count-put [] row k fit = refl
  count-put ((key, None) ∷ es) row k fit = grind (arith, nat_tests, count-put es row k fit.2, no_key_above es key k fit.1)
  count-put ((key, Some other) ∷ es) row k fit = grind (arith, nat_tests, count-put es row k fit.2, no_key_above es key k fit.1)

module _ {R : Type 0} where
  -- one row less, where the slot had one
  pub count-remove : (es : List (ℕ × Option R)) (k : ℕ) → length (kept (remove_entry (is_at (nat_cmp k)) es)) + taken (lookup (is_at (nat_cmp k)) es) ≡ length (kept es)
  count-remove [] k = refl
  count-remove ((key, None) ∷ es) k = grind (arith, nat_tests, count-remove es k)
  count-remove ((key, Some row) ∷ es) k = grind (arith, nat_tests, count-remove es k)

  -- the part without bounds is the whole
  pub all_between : (es : List (ℕ × Option R)) → entries_between nat_cmp Unbounded Unbounded es ≡ es
  all_between [] = refl
  all_between (e ∷ es) = ap (λ (l : List (ℕ × Option R)). e ∷ l) (all_between es)

  -- no more rows than entries
  pub count-le : (es : List (ℕ × Option R)) → length (kept es) ≤ length es
  count-le [] = omega arith
  count-le ((key, None) ∷ es) = omega (arith, count-le es)
  count-le ((key, Some row) ∷ es) = omega (arith, count-le es)

  -- a rank has a slot exactly where the look-up finds an entry
  pub slot_is : (es : List (ℕ × Option R)) (k : ℕ) → has_slot (slots_of es) k ≡ is_some (lookup (is_at (nat_cmp k)) es)
  slot_is [] k = refl
  slot_is ((key, value) ∷ es) k = grind (arith, nat_tests, slot_is es k)

module _ {R : Type 0} (rank : R → ℕ) (es fs : List (ℕ × Option R)) (count k : ℕ) (fit : Fits rank es count) where
  -- an empty slot more
  pub fits-place : lookup (is_at (nat_cmp k)) es ≡ None → fs ≡ insert_entry nat_cmp es k None → Fits rank fs count
  fits-place none e = rw e (record { is_kept = is_kept-insert rank es k None tt fit.is_kept; counted = fit.counted ∙ sym (ap length (kept-place rank es k none)) })

  -- a row in its slot
  pub fits-put : (row : R) (was after : ℕ) → rank row ≡ k → fs ≡ insert_entry nat_cmp es k (Some row) → was ≡ taken (lookup (is_at (nat_cmp k)) es) → after + was ≡ count + 1 → Fits rank fs after
  fits-put row was after at e w sum = rw e (record { is_kept = is_kept-insert rank es k (Some row) at fit.is_kept; counted = omega (arith, count-put rank es row k fit.is_kept, fit.counted, w, sum) })

  -- an entry less
  pub fits-remove : (was after : ℕ) → fs ≡ remove_entry (is_at (nat_cmp k)) es → was ≡ taken (lookup (is_at (nat_cmp k)) es) → after + was ≡ count → Fits rank fs after
  fits-remove was after e w sum = rw e (record { is_kept = is_kept-remove rank es k fit.is_kept; counted = omega (arith, count-remove es k, fit.counted, w, sum) })

module _ {R : Type 0} where
  -- a new entry has its slot
  pub slot_new : (es : List (ℕ × Option R)) (k : ℕ) (v : Option R) → has_slot (slots_of (insert_entry nat_cmp es k v)) k ≡ true
  slot_new [] k v = grind (arith, nat_tests)
  slot_new ((key, value) ∷ es) k v = grind (arith, nat_tests, slot_new es k v)

  -- and takes none away
  pub slot_stays : (es : List (ℕ × Option R)) (k : ℕ) (v : Option R) (j : ℕ) → has_slot (slots_of es) j ≡ true → has_slot (slots_of (insert_entry nat_cmp es k v)) j ≡ true
  slot_stays [] k v j h = grind (arith, nat_tests)
  slot_stays ((key, value) ∷ es) k v j h = grind (arith, nat_tests, slot_stays es k v j)

  -- an entry less takes no other slot away
  pub slot_left : (es : List (ℕ × Option R)) (k j : ℕ) → has_slot (slots_of es) j ≡ true → (j ≡ k → ⊥) → has_slot (slots_of (remove_entry (is_at (nat_cmp k)) es)) j ≡ true
  slot_left [] k j h other = h
  slot_left ((key, value) ∷ es) k j h other = grind (arith, nat_tests, slot_left es k j)

  -- and its own slot is gone
  no_slot_above : (es : List (ℕ × Option R)) (n k : ℕ) → KeysAbove n es → k ≤ n → has_slot (slots_of es) k ≡ false
  no_slot_above [] n k above le = refl
  no_slot_above ((key, value) ∷ es) n k above le = grind (arith, nat_tests, above.0, no_slot_above es n k above.1 le)

  pub slot_gone : (rank : R → ℕ) (es : List (ℕ × Option R)) (k : ℕ) → IsKept rank es → has_slot (slots_of (remove_entry (is_at (nat_cmp k)) es)) k ≡ false
  slot_gone rank [] k fit = refl
  slot_gone rank ((key, value) ∷ es) k fit =
      let behind : k ≤ key → has_slot (slots_of es) k ≡ false = λ le. no_slot_above es key k fit.1 le in
      grind (arith, nat_tests, behind, slot_gone rank es k fit.2)

  -- a slot with no row has none to count
  pub none_taken : (at : Option (Option R)) → flat at ≡ None → taken at ≡ 0
  none_taken None h = refl
  none_taken (Some None) h = refl
  none_taken (Some (Some row)) h = cc

  pub some_slot : (at : Option (Option R)) → is_some at ≡ true → IsSome at
  some_slot None h = cc
  some_slot (Some v) h = search rules

-- ---- the slots themselves

module _ {R : Type 0} where
  keys-insert : (es : List (ℕ × Option R)) (k : ℕ) (v : Option R) → keys_of (insert_entry nat_cmp es k v) ≡ with_slot (keys_of es) k
  keys-insert [] k v = refl
  keys-insert ((key, value) ∷ es) k v = grind (arith, nat_tests, keys-insert es k v)

  keys_stay : (es : List (ℕ × Option R)) (n k : ℕ) → KeysAbove n es → k ≤ n → without_slot (keys_of es) k ≡ keys_of es
  keys_stay [] n k above le = refl
  keys_stay ((key, value) ∷ es) n k above le = grind (arith, nat_tests, above.0, keys_stay es n k above.1 le)

  pub keys-remove : (rank : R → ℕ) (es : List (ℕ × Option R)) (k : ℕ) → IsKept rank es → keys_of (remove_entry (is_at (nat_cmp k)) es) ≡ without_slot (keys_of es) k
  keys-remove rank [] k fit = refl
  keys-remove rank ((key, value) ∷ es) k fit =
      let stay : k ≤ key → without_slot (keys_of es) k ≡ keys_of es = λ le. keys_stay es key k fit.1 le in
      grind (arith, nat_tests, stay, keys-remove rank es k fit.2)

  -- a slot that is there is made no second time
  pub keys_there : (rank : R → ℕ) (es : List (ℕ × Option R)) (k : ℕ) → IsKept rank es → is_some (lookup (is_at (nat_cmp k)) es) ≡ true → with_slot (keys_of es) k ≡ keys_of es
  keys_there rank [] k fit there = cc
  keys_there rank ((key, value) ∷ es) k fit there = grind (arith, nat_tests, there, no_key es key k fit.1, keys_there rank es k fit.2)
    where
      no_key : (es : List (ℕ × Option R)) (n k : ℕ) → KeysAbove n es → k ≤ n → is_some (lookup (is_at (nat_cmp k)) es) ≡ false
      no_key [] n k above le = refl
      no_key ((key, value) ∷ es) n k above le = grind (arith, nat_tests, above.0, no_key es n k above.1 le)

  pub keys-place : (es : List (ℕ × Option R)) (k : ℕ) → keys_of (insert_entry nat_cmp es k None) ≡ with_slot (keys_of es) k
  keys-place es k = keys-insert es k None

-- a slot that is made and taken away again leaves the others as they were
pub slot_undone : (slots : List ℕ) (k : ℕ) → list_any (λ slot. slot == k) slots ≡ false → without_slot (with_slot slots k) k ≡ slots
slot_undone [] k none = grind (arith, nat_tests)
slot_undone (slot ∷ slots) k none = grind (arith, nat_tests, none, stays slots k, slot_undone slots k)
  where
    stays : (slots : List ℕ) (k : ℕ) → list_any (λ slot. slot == k) slots ≡ false → without_slot slots k ≡ slots
    stays [] k none = refl
    stays (slot ∷ slots) k none = grind (arith, nat_tests, none, stays slots k)

module _ {R : Type 0} (rank : R → ℕ) (es : List (ℕ × Option R)) (k : ℕ) where
  -- the table after a slot is made and released
  pub slots_undone : lookup (is_at (nat_cmp k)) es ≡ None → has_slot (slots_of es) k ≡ false → released (slots_of (insert_entry nat_cmp es k None)) k ≡ slots_of es
  slots_undone absent none =
      let rows = kept-place rank es k absent in
      let slots : without_slot (keys_of (insert_entry nat_cmp es k None)) k ≡ keys_of es = ap (λ s. without_slot s k) (keys-place es k) ∙ slot_undone (keys_of es) k none in
      rw (rows, slots) refl

  -- the table after a slot without a row is taken away
  pub slots_released : IsKept rank es → row_at rank (kept es) k ≡ None → slots_of (remove_entry (is_at (nat_cmp k)) es) ≡ released (slots_of es) k
  slots_released fit none =
      let rows : kept (remove_entry (is_at (nat_cmp k)) es) ≡ kept es = kept-remove rank es k fit ∙ without_none rank (kept es) k none in
      rw (rows, keys-remove rank es k fit) refl

-- what a reference that isn't there leads to
pub no_copy : {R : Type 0} (at : Option (Bor R)) → is_some at ≡ false → option_copied at ≡ None
no_copy None h = refl
no_copy (Some b) h = cc

-- the rows of the entries are those of their values
pub kept-values : {R : Type 0} (es : List (ℕ × Option R)) → kept_values (values_of es) ≡ kept es
kept-values [] = refl
kept-values ((key, None) ∷ es) = kept-values es
kept-values {R} ((key, Some row) ∷ es) = ap (λ (rows : List R). row ∷ rows) (kept-values es)
