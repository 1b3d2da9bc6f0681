-- Rows in blocks, one behind another.
use Rattle.std.specs.Prelude.{ℕ, ◌+◌, ◌<◌, ◌≤◌, List, [], ◌∷◌, ◌++◌, length, take, drop}
use Rattle.rows.specs.Rows.{RowList, AllAbove}

-- the rows of all blocks
abbrev pub all_rows : {R : Type 0} → List (RowList R) → List R
all_rows [] = []
all_rows (block ∷ rest) = block.rows ++ all_rows rest

-- the most rows of a block
abbrev pub most : ℕ
most = 512

-- a block has rows, and room for as many as a block may have
pub record IsBlock {R : Type 0} (block : RowList R) : Type 0 where
  pub some : 1 ≤ length block.rows
  pub few : length block.rows ≤ most
  pub room : most ≤ length block.rows + block.spare

abbrev pub AreBlocks : {R : Type 0} → List (RowList R) → Type 0
AreBlocks [] = Unit {0}
AreBlocks (block ∷ rest) = IsBlock block × AreBlocks rest

module _ {R : Type 0} (rank : R → ℕ) where
  -- each rank is below this one
  abbrev pub AllBelow : ℕ → List R → Type 0
  AllBelow k [] = Unit {0}
  AllBelow k (row ∷ rest) = (rank row < k) × AllBelow k rest

  -- the first row's rank is at most this one
  abbrev pub BeginsBy : ℕ → List R → Type 0
  BeginsBy k [] = ⊥
  BeginsBy k (row ∷ rest) = rank row ≤ k

  -- the first row's rank is above this one, if there is a row
  abbrev pub BeginsAbove : ℕ → List R → Type 0
  BeginsAbove k [] = Unit {0}
  BeginsAbove k (row ∷ rest) = k < rank row

  -- all rows before a block are below a rank, and all behind it above
  pub record IsHolder (k : ℕ) (blocks : List (RowList R)) (at : ℕ) : Type 0 where
    pub below : AllBelow k (all_rows (take at blocks))
    pub above : AllAbove rank k (all_rows (drop (at + 1) blocks))
