-- The ranks rise after each change.
use Rattle.std.proofs.Common.{◌≡◌, ℕ, ◌<◌, ◌≤◌, Bool, true, false, List, [], ◌∷◌, None, refl, arith}
use Rattle.std.specs.Prelude.{filter, if◌then◌else◌}
use Rattle.std.proofs.lemmas.Bool.Decides.{nat_tests}
use Rattle.rows.specs.Slots.{with_row}
use Rattle.rows.specs.Rows.{row_at, added, replaced, without, AllAbove, IsRising}

module _ {R : Type 0} (rank : R → ℕ) where
  -- what is above a number is above a smaller one
  pub above_less : (k m : ℕ) (rows : List R) → m ≤ k → AllAbove rank k rows → AllAbove rank m rows
  above_less k m [] le above = tt
  above_less k m (first ∷ rest) le above = (omega (arith, above.0), above_less k m rest le above.1)

  -- none of the rows above n has a rank up to n
  pub none_above : (rows : List R) (n k : ℕ) → AllAbove rank n rows → k ≤ n → row_at rank rows k ≡ None
  none_above [] n k above le = refl
  none_above (first ∷ rest) n k above le = grind (arith, nat_tests, above.0, none_above rest n k above.1 le)

  above_added : (k : ℕ) (row : R) (rows : List R) → k < rank row → AllAbove rank k rows → AllAbove rank k (added rank row rows)
  above_added k row [] lt above = (lt, tt)
  above_added k row (first ∷ rest) lt above = grind (arith, nat_tests, lt, above.0, above.1, above_added k row rest lt above.1)

  above_replaced : (k : ℕ) (row : R) (rows : List R) → AllAbove rank k rows → AllAbove rank k (replaced rank row rows)
  above_replaced k row [] above = tt
  above_replaced k row (first ∷ rest) above = grind (arith, nat_tests, above.0, above_replaced k row rest above.1)

  above_without : (k : ℕ) (rows : List R) (j : ℕ) → AllAbove rank k rows → AllAbove rank k (without rank rows j)
  above_without k [] j above = tt
  above_without k (first ∷ rest) j above = grind (arith, nat_tests, above.0, above_without k rest j above.1)

  pub rising-added : (row : R) (rows : List R) → row_at rank rows (rank row) ≡ None → IsRising rank rows → IsRising rank (added rank row rows)
  rising-added row [] none rising = (tt, tt)
  rising-added row (first ∷ rest) none rising =
      let lower : rank row < rank first → AllAbove rank (rank row) rest = λ lt. above_less (rank first) (rank row) rest (omega arith) rising.0 in
      let above : rank first < rank row → AllAbove rank (rank first) (added rank row rest) = λ lt. above_added (rank first) row rest lt rising.0 in
      grind (arith, nat_tests, none, rising.0, rising.1, lower, above, rising-added row rest)

  pub rising-replaced : (row : R) (rows : List R) → IsRising rank rows → IsRising rank (replaced rank row rows)
  rising-replaced row [] rising = tt
  rising-replaced row (first ∷ rest) rising = grind (arith, nat_tests, above_replaced (rank first) row rest rising.0, rising-replaced row rest rising.1)

  pub rising-without : (rows : List R) (k : ℕ) → IsRising rank rows → IsRising rank (without rank rows k)
  rising-without [] k rising = tt
  rising-without (first ∷ rest) k rising = grind (arith, nat_tests, above_without (rank first) rest k rising.0, rising-without rest k rising.1)

  above_filter : (test : R → Bool) (n : ℕ) (rows : List R) → AllAbove rank n rows → AllAbove rank n (filter test rows)
  above_filter test n [] above = tt
  above_filter test n (first ∷ rest) above = kept_or_not (test first) (above_filter test n rest above.1)
    where
      kept_or_not : (b : Bool) → AllAbove rank n (filter test rest) → AllAbove rank n (if b then first ∷ filter test rest else filter test rest)
      kept_or_not true behind = (above.0, behind)
      kept_or_not false behind = behind

  -- rows that pass a test rise as all of them do
  pub rising-filter : (test : R → Bool) (rows : List R) → IsRising rank rows → IsRising rank (filter test rows)
  rising-filter test [] rising = tt
  rising-filter test (first ∷ rest) rising = kept_or_not (test first) (rising-filter test rest rising.1)
    where
      kept_or_not : (b : Bool) → IsRising rank (filter test rest) → IsRising rank (if b then first ∷ filter test rest else filter test rest)
      kept_or_not true behind = (above_filter test (rank first) rest rising.0, behind)
      kept_or_not false behind = behind

  above_with_row : (rows : List R) (row : R) (n : ℕ) → AllAbove rank n rows → n < rank row → AllAbove rank n (with_row rank rows row)
  above_with_row [] row n above lt = (lt, tt)
  above_with_row (first ∷ rest) row n above lt = grind (arith, nat_tests, above.0, above.1, lt, above_with_row rest row n above.1 lt)

  pub rising-with_row : (rows : List R) (row : R) → IsRising rank rows → IsRising rank (with_row rank rows row)
  rising-with_row [] row rising = (tt, tt)
  rising-with_row (first ∷ rest) row rising =
      let lower : rank row ≤ rank first → AllAbove rank (rank row) rest = λ le. above_less (rank first) (rank row) rest le rising.0 in
      let above : rank first < rank row → AllAbove rank (rank first) (with_row rank rest row) = λ lt. above_with_row rest row (rank first) rising.0 lt in
      grind (arith, nat_tests, rising.0, rising.1, lower, above, rising-with_row rest row rising.1)
