-- The entries of a table, and the writing of one.
use Rattle.std.proofs.Common.{ℕ, ◌≡◌, ◌≢◌, ◌<◌, ◌≤◌, ◌+◌, ◌*◌, refl, sym, ap, ◌∙◌, subst, length, arith, List, get_or, take, replicate, get_or-set_same, get_or-set_other, slice_set, length-set, ◌⊎◌, inl, inr, lit<}
use Rattle.std.specs.List.{All}
use Rattle.std.proofs.Math.Seq.{take-set-lt}
use Rattle.std.proofs.lemmas.Bool.{cases_lt}
use Rattle.std.proofs.lemmas.List.{get_or-take, get_or_past, get_or-replicate, length-replicate, length-take-le, take-replicate}
use Rattle.std.proofs.lemmas.Nat.{same_from_place, mul-add-lt}
use Rattle.gf_linear.specs.Table.{Table, table_of, zeros_of, with_entry, at, IsKept, IsTable, SameShape}

abbrev of_parts : ℕ → ℕ → List ℕ → ℕ → Table
of_parts rows cols entries room =
    record { rows = rows; cols = cols; entries = entries; room = room }

-- an entry's place is within the table
pub place-lt : (rows cols i j : ℕ) → i < rows → j < cols → i * cols + j < rows * cols
place-lt rows cols i j hi hj = omega (arith, mul-add-lt i cols j rows hi hj)

pub at-table_of : (rows cols : ℕ) (cells : List ℕ) (i j : ℕ) → i < rows → j < cols
    → at (table_of rows cols cells) i j ≡ get_or cells (i * cols + j) 0
unfolding at
at-table_of rows cols cells i j hi hj =
    get_or-take (rows * cols) cells (i * cols + j) 0 (place-lt rows cols i j hi hj)

bytes_everywhere : (xs : List ℕ) (n k : ℕ) → All (λ x. x < 256) xs → n ≤ length xs
    → get_or (take n xs) k 0 < 256
bytes_everywhere xs n k h l = go (cases_lt k n)
  where
    go : (k < n) ⊎ (n ≤ k) → get_or (take n xs) k 0 < 256
    go (inl a) = subst (λ z. z < 256) (sym (get_or-take n xs k 0 a)) (h k 0 (omega arith))
    go (inr a) =
        subst (λ z. z < 256) (sym (get_or_past (take n xs) k 0 (omega (arith, length-take-le n xs l)))) (lit< tt)

pub IsTable-table_of : (rows cols : ℕ) (cells : List ℕ) → IsKept rows cols cells
    → IsTable (table_of rows cols cells)
unfolding at
IsTable-table_of rows cols cells k = record {
  few_rows = k.few_rows;
  few_cols = k.few_cols;
  filled = length-take-le (rows * cols) cells k.fits;
  fits = k.fits;
  bytes = λ i j. bytes_everywhere cells (rows * cols) (i * cols + j) k.bytes k.fits;
}

-- ---- a table of zeros
pub table_of-zeros_of : (rows cols room : ℕ) (cells zeros : List ℕ) → cells ≡ zeros
    → zeros ≡ replicate (length zeros) 0
    → rows * cols ≤ length zeros → length zeros ≡ room
    → table_of rows cols cells ≡ zeros_of rows cols room
table_of-zeros_of rows cols room cells zeros same all fits long =
    ap (table_of rows cols) same
    ∙ ap (λ es. of_parts rows cols es (length zeros))
    (ap (take (rows * cols)) all ∙ take-replicate (rows * cols) (length zeros) 0 fits)
    ∙ ap (zeros_of rows cols) long

pub at-zeros_of : (rows cols room i j : ℕ) → at (zeros_of rows cols room) i j ≡ 0
unfolding at
at-zeros_of rows cols room i j = go (cases_lt (i * cols + j) (rows * cols))
  where
    entries : List ℕ
    entries = replicate (rows * cols) 0

    go : (i * cols + j < rows * cols) ⊎ (rows * cols ≤ i * cols + j)
        → get_or entries (i * cols + j) 0 ≡ 0
    go (inl a) = get_or-replicate (rows * cols) (i * cols + j) 0 0 a
    go (inr a) =
        get_or_past entries (i * cols + j) 0 (omega (arith, length-replicate {A = ℕ} (rows * cols) 0))

-- ---- the table with one entry written
pub table_of-with_entry : (rows cols : ℕ) (cells : List ℕ) (i j v : ℕ) → i < rows → j < cols
    → table_of rows cols (slice_set cells (i * cols + j) v) ≡ with_entry (table_of rows cols cells) i j v
table_of-with_entry rows cols cells i j v hi hj =
    ap (λ es. of_parts rows cols es (length (slice_set cells (i * cols + j) v)))
    (take-set-lt (rows * cols) cells (i * cols + j) v (place-lt rows cols i j hi hj))
    ∙ ap (of_parts rows cols (slice_set (take (rows * cols) cells) (i * cols + j) v))
    (length-set cells (i * cols + j) v)

pub at-with_entry : (t : Table) (i j v : ℕ) → i * t.cols + j < length t.entries
    → at (with_entry t i j v) i j ≡ v
unfolding at
at-with_entry t i j v h = get_or-set_same t.entries (i * t.cols + j) v 0 h

pub at-with_entry-other : (t : Table) (i j k l v : ℕ) → j < t.cols → l < t.cols → (i ≢ k) ⊎ (j ≢ l)
    → at (with_entry t k l v) i j ≡ at t i j
unfolding at
at-with_entry-other t i j k l v hj hl ne =
    get_or-set_other t.entries (k * t.cols + l) (i * t.cols + j) v 0 (apart ne)
  where
    apart : (i ≢ k) ⊎ (j ≢ l) → i * t.cols + j ≢ k * t.cols + l
    apart (inl n) e = n (same_from_place i j k l t.cols hj hl e).0
    apart (inr n) e = n (same_from_place i j k l t.cols hj hl e).1

pub SameShape-with_entry : (t u : Table) (i j v : ℕ) → u ≡ with_entry t i j v → SameShape t u
SameShape-with_entry t u i j v e = record {
  rows = ap (λ (w : Table). w.rows) e;
  cols = ap (λ (w : Table). w.cols) e;
  room = ap (λ (w : Table). w.room) e;
}

-- ---- tables of one shape
pub SameShape-refl : (t : Table) → SameShape t t
SameShape-refl t = record { rows = refl; cols = refl; room = refl }

pub SameShape-trans : {a b c : Table} → SameShape a b → SameShape b c → SameShape a c
SameShape-trans p q =
    record { rows = q.rows ∙ p.rows; cols = q.cols ∙ p.cols; room = q.room ∙ p.room }
