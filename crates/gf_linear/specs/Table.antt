use Rattle.std.specs.Prelude.{◌≡◌, ℕ, ◌+◌, ◌*◌, ◌<◌, ◌≤◌, List, length, slice_index, slice_set, take, replicate, All}

-- a table of bytes, whose entries stand row by row. Its room is the number of entries that it has
-- memory for
pub record Table : Type 0 where
  pub rows : ℕ
  pub cols : ℕ
  pub entries : List ℕ
  pub room : ℕ

-- the table that stands in the first of these cells
abbrev pub table_of : ℕ → ℕ → List ℕ → Table
table_of rows cols cells =
    record { rows = rows; cols = cols; entries = take (rows * cols) cells; room = length cells }

-- a table of zeros
abbrev pub zeros_of : ℕ → ℕ → ℕ → Table
zeros_of rows cols room =
    record { rows = rows; cols = cols; entries = replicate (rows * cols) 0; room = room }

-- the table with v as the entry in row i and column j
abbrev pub with_entry : Table → ℕ → ℕ → ℕ → Table
with_entry t i j v = record t { entries = slice_set t.entries (i * t.cols + j) v }

-- the entry in row i and column j
unfoldable pub at : Table → ℕ → ℕ → ℕ
at t i j = slice_index t.entries (i * t.cols + j)

-- what a matrix keeps of its fields. That the cells are bytes is in their type too, but a proof
-- sees a type's range only where the code reads
pub record IsKept (rows cols : ℕ) (cells : List ℕ) : Type 0 where
  pub few_rows : rows ≤ 128
  pub few_cols : cols ≤ 129
  pub fits : rows * cols ≤ length cells
  pub bytes : All (λ cell. cell < 256) cells

-- what holds of each table of the program
pub record IsTable (t : Table) : Type 0 where
  pub few_rows : t.rows ≤ 128
  pub few_cols : t.cols ≤ 129
  pub filled : length t.entries ≡ t.rows * t.cols
  pub fits : t.rows * t.cols ≤ t.room
  pub bytes : (i j : ℕ) → at t i j < 256

-- the size and the room are the same, and the entries may differ
pub record SameShape (old new : Table) : Type 0 where
  pub rows : new.rows ≡ old.rows
  pub cols : new.cols ≡ old.cols
  pub room : new.room ≡ old.room
