-- The steps of Gauss-Jordan elimination. M and N are tables by row and column, before a step and
-- after it
use Rattle.std.specs.Prelude.{◌≡◌, ◌≢◌, ℕ, suc, ◌<◌, ◌≤◌, ◌⊎◌}
use Rattle.gf256.specs.Field.{◌⊕◌, ◌⊗◌, inverse}
use Rattle.gf256.specs.Sums.{total}

-- row i of M, over its first cols columns, takes v to 0
abbrev pub TakesToZero : ℕ → (ℕ → ℕ → ℕ) → (ℕ → ℕ) → ℕ → Type 0
TakesToZero cols M v i = total cols (λ j. M i j ⊗ v j) ≡ 0

-- the rows of M and those of N take the same lists to 0
pub record SameKernel (rows cols : ℕ) (M N : ℕ → ℕ → ℕ) : Type 0 where
  pub forth :
      (v : ℕ → ℕ) → ((i : ℕ) → i < rows → TakesToZero cols M v i)
      → (i : ℕ) → i < rows → TakesToZero cols N v i
  pub back :
      (v : ℕ → ℕ) → ((i : ℕ) → i < rows → TakesToZero cols N v i)
      → (i : ℕ) → i < rows → TakesToZero cols M v i

-- N is M with factor times the row from added to the row to
pub record RowAdded (cols : ℕ) (M N : ℕ → ℕ → ℕ) (to from factor : ℕ) : Type 0 where
  pub sum : (j : ℕ) → j < cols → N to j ≡ M to j ⊕ factor ⊗ M from j
  pub others : (i j : ℕ) → i ≢ to → j < cols → N i j ≡ M i j

-- row p is the first from rank on that is not 0 in column c
pub record IsFirstPivot (rows : ℕ) (M : ℕ → ℕ → ℕ) (rank c p : ℕ) : Type 0 where
  pub from_rank : rank ≤ p
  pub within : p < rows
  pub zeros : (i : ℕ) → rank ≤ i → i < p → M i c ≡ 0
  pub found : M p c ≢ 0

-- row p is added to row rank, unless it is that row
abbrev pub IsPivotRaised : ℕ → (ℕ → ℕ → ℕ) → (ℕ → ℕ → ℕ) → ℕ → ℕ → Type 0
IsPivotRaised cols M N rank p =
    ((p ≡ rank) × ((i j : ℕ) → j < cols → N i j ≡ M i j))
    ⊎ ((p ≢ rank) × RowAdded cols M N rank p 1)

-- each row but r lost the multiple of row r that makes it 0 in column c
pub record IsEliminated (rows cols : ℕ) (M N : ℕ → ℕ → ℕ) (r c : ℕ) : Type 0 where
  pub own : (j : ℕ) → j < cols → N r j ≡ M r j
  pub eliminated :
      (i j : ℕ) → i < rows → i ≢ r → j < cols
      → N i j ≡ M i j ⊕ (M i c ⊗ inverse (M r c)) ⊗ M r j

-- the first c columns of M are reduced, with a pivot in each of the first rank rows. A column's mark
-- is 0 where it has no pivot, and else its pivot's row plus 1
pub record IsReduced (rows rank c : ℕ) (M : ℕ → ℕ → ℕ) (mark : ℕ → ℕ) : Type 0 where
  pub low : rank ≤ rows
  pub below : (i j : ℕ) → rank ≤ i → i < rows → j < c → M i j ≡ 0
  pub marked : (j : ℕ) → j < c → mark j ≢ 0 → mark j ≤ rank
  pub pivot :
      (j r : ℕ) → j < c → mark j ≡ suc r
      → (M r j ≢ 0) × ((i : ℕ) → i < rows → i ≢ r → M i j ≡ 0) × ((l : ℕ) → l < j → M r l ≡ 0)
  pub onto : (r : ℕ) → r < rank → (j : ℕ) × (j < c) × (mark j ≡ suc r)
  pub once : (j l r : ℕ) → j < c → l < c → mark j ≡ suc r → mark l ≡ suc r → j ≡ l

-- x has the unknowns of a reduced table: 0 where there is no pivot, and else the right side over the
-- pivot
pub record IsReadOff (unknowns : ℕ) (M : ℕ → ℕ → ℕ) (mark x : ℕ → ℕ) : Type 0 where
  pub free : (j : ℕ) → j < unknowns → mark j ≡ 0 → x j ≡ 0
  pub bound : (j r : ℕ) → j < unknowns → mark j ≡ suc r → x j ≡ M r unknowns ⊗ inverse (M r j)
