-- A row above all others goes to their end.
use Rattle.std.proofs.Common.{◌≡◌, ℕ, ◌<◌, List, [], ◌∷◌, ◌++◌, refl, arith}
use Rattle.std.proofs.lemmas.Bool.Decides.{nat_tests}
use Rattle.rows.specs.Rows.{AllAbove, IsRising}
use Rattle.rows.specs.Slots.{with_row}

module _ {R : Type 0} (rank : R → ℕ) where
  -- a rank among those above another is above it
  above_among : (rows : List R) (row : R) (rest : List R) (n : ℕ) → AllAbove rank n (rows ++ row ∷ rest) → n < rank row
  above_among [] row rest n above = above.0
  above_among (first ∷ rows) row rest n above = above_among rows row rest n above.1

  pub with_row-end : (rows : List R) (row : R) (rest : List R) → IsRising rank (rows ++ row ∷ rest) → with_row rank rows row ≡ rows ++ row ∷ []
  with_row-end [] row rest rising = refl
  with_row-end (first ∷ rows) row rest rising =
      let later : rank first < rank row = above_among rows row rest (rank first) rising.0 in
      grind (arith, nat_tests, later, with_row-end rows row rest rising.1)
