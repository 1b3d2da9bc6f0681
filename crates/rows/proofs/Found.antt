-- What a look-up finds after a change: the row that was added or replaced by its rank, none of a rank that was removed, and every other row as before.
use Rattle.std.proofs.Common.{◌≡◌, ℕ, zero, suc, ◌<◌, Bool, true, List, [], ◌∷◌, Option, Some, None, IsSome, IfSome, Bor, option_copied, refl, sym, subst, arith}
use Rattle.std.specs.Prelude.{◌==◌, if◌then◌else◌, slice_get}
use Rattle.std.specs.List.{list_all}
use Rattle.std.proofs.lemmas.Bool.Decides.{nat_tests}
use Rattle.rows.specs.Rows.{row_at, added, replaced, without, AllAbove, IsRising}
use Rattle.rows.specs.Slots.{with_row}

module _ {R : Type 0} (rank : R → ℕ) where
  pub row_at-added : (row : R) (rows : List R) (k : ℕ) → row_at rank rows (rank row) ≡ None → row_at rank (added rank row rows) k ≡ (if rank row == k then Some row else row_at rank rows k)
  row_at-added row [] k none = refl
  row_at-added row (first ∷ rest) k none = grind (arith, nat_tests, none, row_at-added row rest k)

  pub row_at-replaced : (row : R) (rows : List R) (k : ℕ) → IsSome (row_at rank rows (rank row)) → row_at rank (replaced rank row rows) k ≡ (if rank row == k then Some row else row_at rank rows k)
  row_at-replaced row [] k there = cc
  row_at-replaced row (first ∷ rest) k there = grind (arith, nat_tests, there, row_at-replaced row rest k, row_at-other row rest k)
    where
      -- a row replaces none of another rank
      row_at-other : (row : R) (rows : List R) (k : ℕ) → (rank row ≡ k → ⊥) → row_at rank (replaced rank row rows) k ≡ row_at rank rows k
      row_at-other row [] k ne = refl
      row_at-other row (first ∷ rest) k ne = grind (arith, nat_tests, ne, row_at-other row rest k ne)

  pub row_at-without : (rows : List R) (j k : ℕ) → row_at rank (without rank rows j) k ≡ (if j == k then None else row_at rank rows k)
  row_at-without [] j k = grind (arith, nat_tests)
  row_at-without (first ∷ rest) j k = grind (arith, nat_tests, row_at-without rest j k)

  -- a row that is left was there
  pub row_left : (rows : List R) (j k : ℕ) (row : R) → row_at rank (without rank rows j) k ≡ Some row → row_at rank rows k ≡ Some row
  row_left rows j k row left = grind (arith, nat_tests, left, row_at-without rows j k)

  pub row_at-with_row : (rows : List R) (row : R) (k : ℕ) → row_at rank (with_row rank rows row) k ≡ (if rank row == k then Some row else row_at rank rows k)
  row_at-with_row [] row k = refl
  row_at-with_row (first ∷ rest) row k = grind (arith, nat_tests, row_at-with_row rest row k)

  above_got : (n : ℕ) (rows : List R) → AllAbove rank n rows → (i : ℕ) (row : R) → slice_get rows i ≡ Some row → n < rank row
  above_got n [] above i row got = absurd cc
  above_got n (first ∷ rest) above zero row got = let same : first ≡ row = cc in subst (λ (r : R). n < rank r) same above.0
  above_got n (first ∷ rest) above (suc i) row got = above_got n rest above.1 i row got

  -- a row that stands somewhere is found by its rank
  pub row_got : (rows : List R) → IsRising rank rows → (i : ℕ) (row : R) → slice_get rows i ≡ Some row → row_at rank rows (rank row) ≡ Some row
  row_got [] rising i row got = cc
  row_got (first ∷ rest) rising zero row got = let same : first ≡ row = cc in grind (arith, nat_tests, same)
  row_got (first ∷ rest) rising (suc i) row got =
      let later : rank first < rank row = above_got (rank first) rest rising.0 i row got in
      let there : row_at rank rest (rank row) ≡ Some row = row_got rest rising.1 i row got in
      grind (arith, nat_tests, later, there)

  -- a row that is found passes each test that all rows pass
  pub all-found : (good : R → Bool) (rows : List R) (k : ℕ) (row : R) → list_all good rows ≡ true → row_at rank rows k ≡ Some row → good row ≡ true
  all-found good [] k row all found = cc
  all-found good (first ∷ rest) k row all found = grind (arith, nat_tests, all, found, all-found good rest k row)

  -- the row that is found has the rank
  pub rank-found : (rows : List R) (k : ℕ) (row : R) → row_at rank rows k ≡ Some row → rank row ≡ k
  rank-found [] k row found = cc
  rank-found (first ∷ rest) k row found = grind (arith, nat_tests, found, rank-found rest k row)

  pub ranked_found : (rows : List R) (k : ℕ) (found : Option (Bor R)) → option_copied found ≡ row_at rank rows k → IfSome found (λ row. rank row.now ≡ k)
  ranked_found rows k None is = tt
  ranked_found rows k (Some row) is = rank-found rows k row.now (sym is)
