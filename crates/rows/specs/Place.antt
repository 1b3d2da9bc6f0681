-- Where a rank stands among the rows, or would stand.
use Rattle.std.specs.Prelude.{◌≡◌, ℕ, suc, ◌<◌, ◌≤◌, List, length, None, slice_get, slice_set, insert, remove}
use Rattle.rows.specs.Rows.{row_at, first_above, added, replaced, without}

module _ {R : Type 0} (rank : R → ℕ) where
  -- the row of this rank stands at i
  pub record IsAt (rows : List R) (k i : ℕ) : Type 0 where
    pub in_range : i < length rows
    pub has_rank : row_at rank rows k ≡ slice_get rows i
    pub next : first_above rank rows k ≡ slice_get rows (suc i)
    pub in_place : (row : R) → rank row ≡ k → replaced rank row rows ≡ slice_set rows i row
    pub left_out : without rank rows k ≡ remove rows i

  -- no row has this rank, and one would stand at i
  pub record IsGapFor (rows : List R) (k i : ℕ) : Type 0 where
    pub in_range : i ≤ length rows
    pub absent : row_at rank rows k ≡ None
    pub next : first_above rank rows k ≡ slice_get rows i
    pub in_order : (row : R) → rank row ≡ k → added rank row rows ≡ insert rows i row
    pub none_out : without rank rows k ≡ rows
