-- Facts of lists of rows.
use Rattle.std.proofs.Common.{◌≡◌, ℕ, ◌≤◌, Bool, true, false, List, [], ◌∷◌, ◌++◌, Some, None, is_some, refl, sym, ap, subst, ◌∙◌, append_assoc, arith}
use Rattle.std.specs.Prelude.{if◌then◌else◌, ◌==◌, filter}
use Rattle.std.specs.List.{list_all, list_any}
use Rattle.std.proofs.lemmas.Bool.Decides.{nat_tests}
use Rattle.std.proofs.lemmas.Bool.{and_parts}
use Rattle.rows.specs.Rows.{Each, row_at, AllAbove, IsRising}
use Rattle.rows.specs.Slots.{with_row}
use Rattle.rows.proofs.RisingLemmas.{with_row-end}

pub none_joined : {X : Type 0} (xs ys : List X) → xs ++ ys ≡ [] → (xs ≡ []) × (ys ≡ [])
none_joined [] ys h = (refl, h)
none_joined (x ∷ xs) ys h = absurd cc

pub list_all-append : {X : Type 0} (good : X → Bool) (xs ys : List X) → list_all good xs ≡ true → list_all good ys ≡ true → list_all good (xs ++ ys) ≡ true
list_all-append good [] ys p q = q
list_all-append good (x ∷ xs) ys p q = grind (arith, nat_tests, p, q, list_all-append good xs ys)

-- a test that holds wherever another does
pub all-weaker : {X : Type 0} (strong weak : X → Bool) → ((x : X) → strong x ≡ true → weak x ≡ true) → (xs : List X) → list_all strong xs ≡ true → list_all weak xs ≡ true
all-weaker strong weak so [] all = refl
all-weaker strong weak so (x ∷ xs) all = grind (arith, nat_tests, all, so x, all-weaker strong weak so xs)

pub each-weaker : {X : Type 0} (P Q : X → Type 0) → ((x : X) → P x → Q x) → (xs : List X) → Each P xs → Each Q xs
each-weaker P Q so [] each = tt
each-weaker P Q so (x ∷ xs) each = (so x each.0, each-weaker P Q so xs each.1)

module _ {R : Type 0} (rank : R → ℕ) where
  -- a row that a test leaves out changes nothing that passes it
  pub filter-with_row : (test : R → Bool) (rows : List R) (row : R) → row_at rank rows (rank row) ≡ None → test row ≡ false → filter test (with_row rank rows row) ≡ filter test rows
  filter-with_row test [] row none out = grind (arith, out)
  filter-with_row test (first ∷ rest) row none out = grind (arith, nat_tests, none, out, filter-with_row test rest row)

  pub row_at-append : (xs ys : List R) (k : ℕ) → is_some (row_at rank xs k) ≡ true → is_some (row_at rank (xs ++ ys) k) ≡ true
  row_at-append [] ys k h = cc
  row_at-append (x ∷ xs) ys k h = grind (arith, nat_tests, h, row_at-append xs ys k)

  pub row_at-behind : (xs ys : List R) (k : ℕ) → is_some (row_at rank ys k) ≡ true → is_some (row_at rank (xs ++ ys) k) ≡ true
  row_at-behind [] ys k h = h
  row_at-behind (x ∷ xs) ys k h = grind (arith, nat_tests, h, row_at-behind xs ys k)

  -- rows up to a number, and rows above it
  pub rising-append : (xs ys : List R) (k : ℕ) → IsRising rank xs → IsRising rank ys → Each (λ x. rank x ≤ k) xs → AllAbove rank k ys → IsRising rank (xs ++ ys)
  rising-append [] ys k rx ry below above = ry
  rising-append (x ∷ xs) ys k rx ry below above = (above-append xs rx.0, rising-append xs ys k rx.1 ry below.1 above)
    where
      above-later : (zs : List R) → AllAbove rank k zs → AllAbove rank (rank x) zs
      above-later [] h = tt
      above-later (z ∷ zs) h = (omega (arith, h.0, below.0), above-later zs h.1)

      above-append : (zs : List R) → AllAbove rank (rank x) zs → AllAbove rank (rank x) (zs ++ ys)
      above-append [] h = above-later ys above
      above-append (z ∷ zs) h = (h.0, above-append zs h.1)

  -- rows put one after another
  abbrev pub with_rows : List R → List R → List R
  with_rows rows [] = rows
  with_rows rows (row ∷ rest) = with_rows (with_row rank rows row) rest

  -- where they stand behind those that are there, they are appended
  pub with_rows-appended : (xs ys : List R) → IsRising rank (xs ++ ys) → with_rows xs ys ≡ xs ++ ys
  with_rows-appended xs [] h = sym (append-empty xs)
    where
      append-empty : (zs : List R) → zs ++ [] ≡ zs
      append-empty [] = refl
      append-empty (z ∷ zs) = ap (λ (t : List R). z ∷ t) (append-empty zs)
  with_rows-appended xs (y ∷ ys) h =
      let last = with_row-end rank xs y ys h in
      let same : (xs ++ y ∷ []) ++ ys ≡ xs ++ y ∷ ys = append_assoc xs (y ∷ []) ys in
      ap (λ (zs : List R). with_rows zs ys) last ∙ with_rows-appended (xs ++ y ∷ []) ys (subst (λ (zs : List R). IsRising rank zs) (sym same) h) ∙ same

  pub each-found : (P : R → Type 0) (rows : List R) (k : ℕ) (row : R) → Each P rows → row_at rank rows k ≡ Some row → P row
  each-found P [] k row each found = absurd cc
  each-found P (first ∷ rest) k row each found = each-here (rank first == k) found (each-found P rest k row each.1)
    where
      each-here : (b : Bool) → (if b then Some first else row_at rank rest k) ≡ Some row → (row_at rank rest k ≡ Some row → P row) → P row
      each-here true found later = let same : first ≡ row = cc in subst P same each.0
      each-here false found later = later found

  -- each of rising rows is found at its rank
  pub each-at : (rows : List R) → IsRising rank rows → Each (λ row. row_at rank rows (rank row) ≡ Some row) rows
  each-at [] rising = tt
  each-at (first ∷ rest) rising = (grind (arith, nat_tests), behind rest rising.0 (each-at rest rising.1))
    where
      behind : (rows : List R) → AllAbove rank (rank first) rows → Each (λ row. row_at rank rest (rank row) ≡ Some row) rows → Each (λ row. row_at rank (first ∷ rest) (rank row) ≡ Some row) rows
      behind [] above each = tt
      behind (row ∷ rows) above each = (grind (arith, nat_tests, above.0, each.0), behind rows above.1 each.1)

-- what a test tells of each row
pub each-all : {X : Type 0} (good : X → Bool) (P : X → Type 0) → ((x : X) → good x ≡ true → P x) → (xs : List X) → list_all good xs ≡ true → Each P xs
each-all good P so [] all = tt
each-all good P so (x ∷ xs) all = let parts = and_parts (good x) (list_all good xs) all in (so x parts.0, each-all good P so xs parts.1)

module _ {R : Type 0} (rank : R → ℕ) where
  pub each-with_row : (P : R → Type 0) (rows : List R) (row : R) → Each P rows → P row → Each P (with_row rank rows row)
  each-with_row P [] row each one = (one, tt)
  each-with_row P (first ∷ rest) row each one = grind (arith, nat_tests, each.0, each.1, one, each-with_row P rest row each.1 one)

  pub any-with_row : (test : R → Bool) (rows : List R) (row : R) → row_at rank rows (rank row) ≡ None → test row ≡ false → list_any test (with_row rank rows row) ≡ list_any test rows
  any-with_row test [] row none out = grind (arith, nat_tests, out)
  any-with_row test (first ∷ rest) row none out = grind (arith, nat_tests, none, out, any-with_row test rest row)
