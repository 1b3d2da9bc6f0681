-- How many rows there are after each change.
use Rattle.std.proofs.Common.{◌≡◌, ℕ, ◌+◌, ◌≤◌, List, [], ◌∷◌, length, None, IsSome, refl, arith}
use Rattle.std.proofs.lemmas.Bool.Decides.{nat_tests}
use Rattle.rows.specs.Slots.{with_row}
use Rattle.rows.proofs.Rising.{none_above}
use Rattle.rows.specs.Rows.{row_at, added, replaced, without, AllAbove, IsRising}

module _ {R : Type 0} (rank : R → ℕ) where
  pub length-added : (row : R) (rows : List R) → length (added rank row rows) ≡ length rows + 1
  length-added row [] = refl
  length-added row (first ∷ rest) = grind (arith, nat_tests, length-added row rest)

  pub length-replaced : (row : R) (rows : List R) → length (replaced rank row rows) ≡ length rows
  length-replaced row [] = refl
  length-replaced row (first ∷ rest) = grind (arith, nat_tests, length-replaced row rest)

  -- where no row has the rank, none goes
  pub without_none : (rows : List R) (k : ℕ) → row_at rank rows k ≡ None → without rank rows k ≡ rows
  without_none [] k none = refl
  without_none (first ∷ rest) k none = grind (arith, nat_tests, none, without_none rest k)

  -- ranks above another's lose none to it
  pub without_above : (rows : List R) (n k : ℕ) → AllAbove rank n rows → k ≤ n → without rank rows k ≡ rows
  without_above [] n k above le = refl
  without_above (first ∷ rest) n k above le = grind (arith, nat_tests, above.0, without_above rest n k above.1 le)

  -- where a row has the rank, one goes
  pub length-without : (rows : List R) (k : ℕ) → IsRising rank rows → IsSome (row_at rank rows k) → length (without rank rows k) + 1 ≡ length rows
  length-without [] k rising there = cc
  length-without (first ∷ rest) k rising there =
      let same : k ≤ rank first → without rank rest k ≡ rest = λ le. without_above rest (rank first) k rising.0 le in
      grind (arith, nat_tests, there, same, length-without rest k rising.1)

  -- a row that is put comes to the rows, or in place of one
  pub length-with_row : (rows : List R) (row : R) → length (with_row rank rows row) ≤ length rows + 1
  length-with_row [] row = omega arith
  length-with_row (first ∷ rest) row = grind (arith, nat_tests, length-with_row rest row)

  pub length-put_over : (rows : List R) (row : R) → IsRising rank rows → IsSome (row_at rank rows (rank row)) → length (with_row rank rows row) ≡ length rows
  length-put_over [] row rising there = cc
  length-put_over (first ∷ rest) row rising there =
      let none : rank row ≤ rank first → row_at rank rest (rank row) ≡ None = λ le. none_above rank rest (rank first) (rank row) rising.0 le in
      grind (arith, nat_tests, there, none, length-put_over rest row rising.1)

  pub length-without-le : (rows : List R) (k : ℕ) → length (without rank rows k) ≤ length rows
  length-without-le [] k = omega arith
  length-without-le (first ∷ rest) k = grind (arith, nat_tests, length-without-le rest k)
