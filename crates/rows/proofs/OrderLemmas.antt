-- Rows that rise, cut into a part before and a part behind.
use Rattle.std.proofs.Common.{◌≡◌, ℕ, ◌+◌, ◌-◌, ◌<◌, ◌≤◌, List, [], ◌∷◌, ◌++◌, length, take, drop, get_or, None, ◌⊎◌, inl, inr, refl, sym, ap, ◌∙◌, subst, arith}
use Rattle.std.proofs.lemmas.Bool.Decides.{nat_tests}
use Rattle.std.proofs.lemmas.List.{drop_more, drop_all, take-append-drop, append_assoc, length-take}
use Rattle.std.specs.Prelude.{slice_get}
use Rattle.std.specs.Option.{option_or}
use Rattle.rows.specs.Rows.{row_at, first_above, added, without, AllAbove, IsRising}
use Rattle.rows.proofs.Rising.{above_less, none_above}
use Rattle.rows.proofs.Lengths.{without_above}
use Rattle.rows.specs.Blocks.{AllBelow, BeginsBy, BeginsAbove}

module _ {R : Type 0} (rank : R → ℕ) where
  pub above_behind : (k : ℕ) (xs ys : List R) → AllAbove rank k (xs ++ ys) → AllAbove rank k ys
  above_behind k [] ys above = above
  above_behind k (x ∷ xs) ys above = above_behind k xs ys above.1

  pub rising_behind : (xs ys : List R) → IsRising rank (xs ++ ys) → IsRising rank ys
  rising_behind [] ys rising = rising
  rising_behind (x ∷ xs) ys rising = rising_behind xs ys rising.1

  -- a row below all others goes to their front
  pub added_front : (row : R) (rows : List R) → AllAbove rank (rank row) rows → added rank row rows ≡ row ∷ rows
  added_front row [] above = refl
  added_front row (first ∷ rest) above = grind (arith, nat_tests, above.0)

  -- the last row is left out by its rank
  pub without_last : (init : List R) (row : R) (ys : List R) → IsRising rank (init ++ (row ∷ ys)) → without rank (init ++ (row ∷ [])) (rank row) ≡ init
  without_last [] row ys rising = grind (arith, nat_tests)
  without_last (first ∷ rest) row ys rising =
      let above = above_behind (rank first) rest (row ∷ ys) rising.0 in
      grind (arith, nat_tests, above.0, without_last rest row ys rising.1)

  pub last_split : (xs : List R) (row : R) (n : ℕ) → n + 1 ≡ length xs → row ≡ get_or xs n row → xs ≡ take n xs ++ (row ∷ [])
  last_split xs row n last is =
      let behind : drop n xs ≡ row ∷ [] = rw (drop_more xs n row (omega arith), ← is, drop_all (n + 1) xs (omega arith)) refl in
      sym (take-append-drop n xs) ∙ ap (λ (ys : List R). take n xs ++ ys) behind

  -- the last row of xs goes to the front of ys
  module _ (xs ys : List R) (row : R) (some : 1 ≤ length xs) (is : row ≡ get_or xs (length xs - 1) row) (rising : IsRising rank (xs ++ ys)) where
    abbrev init : List R
    init = take (length xs - 1) xs

    split : xs ≡ init ++ (row ∷ [])
    split = last_split xs row (length xs - 1) (omega arith) is

    whole : xs ++ ys ≡ init ++ (row ∷ ys)
    whole = ap (λ (l : List R). l ++ ys) split ∙ append_assoc init (row ∷ []) ys

    rises : IsRising rank (init ++ (row ∷ ys))
    rises = subst (IsRising rank) whole rising

    above : AllAbove rank (rank row) ys
    above = (rising_behind init (row ∷ ys) rises).0

    pub moved_absent : row_at rank ys (rank row) ≡ None
    moved_absent = none_above rank ys (rank row) (rank row) above (omega arith)

    is_init : without rank xs (rank row) ≡ init
    is_init = ap (λ (l : List R). without rank l (rank row)) split ∙ without_last init row ys rises

    pub moved_rows : without rank xs (rank row) ++ added rank row ys ≡ xs ++ ys
    moved_rows = rw (is_init, added_front row ys above) (sym whole)

    pub moved_one : length (without rank xs (rank row)) + 1 ≡ length xs
    moved_one = rw is_init (omega (arith, length-take (length xs - 1) xs))

    pub moved_more : length (added rank row ys) ≡ length ys + 1
    moved_more = rw (added_front row ys above) (omega arith)

  -- ---- a part in the middle, where all before is below a rank and all behind above it

  pub below_front : (k : ℕ) (xs zs : List R) → IsRising rank (xs ++ zs) → BeginsBy rank k zs → AllBelow rank k xs
  below_front k [] zs rising by = tt
  below_front k (x ∷ xs) [] rising by = elim by [ ]
  below_front k (x ∷ xs) (z ∷ zs) rising by =
      let above = above_behind (rank x) xs (z ∷ zs) rising.0 in
      (omega (arith, above.0, by), below_front k xs (z ∷ zs) rising.1 by)

  pub above_begin : (k : ℕ) (rows : List R) → IsRising rank rows → BeginsAbove rank k rows → AllAbove rank k rows
  above_begin k [] rising begins = tt
  above_begin k (row ∷ rest) rising begins = (begins, above_less rank (rank row) k rest (omega (arith, begins)) rising.0)

  first_is : (k : ℕ) (rows : List R) → AllAbove rank k rows → first_above rank rows k ≡ slice_get rows 0
  first_is k [] above = refl
  first_is k (row ∷ rest) above = grind (arith, nat_tests, above.0)

  in_rest : (k : ℕ) (ys zs : List R) → AllAbove rank k zs → row_at rank (ys ++ zs) k ≡ row_at rank ys k
  in_rest k [] zs above = none_above rank zs k k above (omega arith)
  in_rest k (y ∷ ys) zs above = grind (arith, nat_tests, in_rest k ys zs above)

  pub row_within : (k : ℕ) (xs ys zs : List R) → AllBelow rank k xs → AllAbove rank k zs → row_at rank (xs ++ (ys ++ zs)) k ≡ row_at rank ys k
  row_within k [] ys zs below above = in_rest k ys zs above
  row_within k (x ∷ xs) ys zs below above = grind (arith, nat_tests, below.0, row_within k xs ys zs below.1 above)

  next_rest : (k : ℕ) (ys zs : List R) → AllAbove rank k zs → first_above rank (ys ++ zs) k ≡ option_or (first_above rank ys k) (slice_get zs 0)
  next_rest k [] zs above = first_is k zs above
  next_rest k (y ∷ ys) zs above = grind (arith, nat_tests, next_rest k ys zs above)

  pub next_within : (k : ℕ) (xs ys zs : List R) → AllBelow rank k xs → AllAbove rank k zs
      → first_above rank (xs ++ (ys ++ zs)) k ≡ option_or (first_above rank ys k) (slice_get zs 0)
  next_within k [] ys zs below above = next_rest k ys zs above
  next_within k (x ∷ xs) ys zs below above = grind (arith, nat_tests, below.0, next_within k xs ys zs below.1 above)

  added_rest : (row : R) (ys zs : List R) → AllAbove rank (rank row) zs → added rank row (ys ++ zs) ≡ added rank row ys ++ zs
  added_rest row [] zs above = added_front row zs above
  added_rest row (y ∷ ys) zs above = grind (arith, nat_tests, added_rest row ys zs above)

  pub added_within : (row : R) (xs ys zs : List R) → AllBelow rank (rank row) xs → AllAbove rank (rank row) zs
      → added rank row (xs ++ (ys ++ zs)) ≡ xs ++ (added rank row ys ++ zs)
  added_within row [] ys zs below above = added_rest row ys zs above
  added_within row (x ∷ xs) ys zs below above = grind (arith, nat_tests, below.0, added_within row xs ys zs below.1 above)

  without_rest : (k : ℕ) (ys zs : List R) → AllAbove rank k zs → without rank (ys ++ zs) k ≡ without rank ys k ++ zs
  without_rest k [] zs above = without_above rank zs k k above (omega arith)
  without_rest k (y ∷ ys) zs above = grind (arith, nat_tests, without_rest k ys zs above)

  pub without_within : (k : ℕ) (xs ys zs : List R) → AllBelow rank k xs → AllAbove rank k zs
      → without rank (xs ++ (ys ++ zs)) k ≡ xs ++ (without rank ys k ++ zs)
  without_within k [] ys zs below above = without_rest k ys zs above
  without_within k (x ∷ xs) ys zs below above = grind (arith, nat_tests, below.0, without_within k xs ys zs below.1 above)

  added_behind : (row : R) (xs ys : List R) → AllBelow rank (rank row) xs → added rank row (xs ++ ys) ≡ xs ++ added rank row ys
  added_behind row [] ys below = refl
  added_behind row (x ∷ xs) ys below = grind (arith, nat_tests, below.0, added_behind row xs ys below.1)

  -- where no row of two parts has a rank, none of either has it
  pub none_front : (k : ℕ) (xs ys : List R) → row_at rank (xs ++ ys) k ≡ None → row_at rank xs k ≡ None
  none_front k [] ys none = refl
  none_front k (x ∷ xs) ys none = grind (arith, nat_tests, none, none_front k xs ys)

  pub none_behind : (k : ℕ) (xs ys : List R) → row_at rank (xs ++ ys) k ≡ None → row_at rank ys k ≡ None
  none_behind k [] ys none = none
  none_behind k (x ∷ xs) ys none = grind (arith, nat_tests, none, none_behind k xs ys)

  pub added_to_front : (row : R) (xs ys : List R) → IsRising rank (xs ++ ys) → BeginsAbove rank (rank row) ys
      → added rank row xs ++ ys ≡ added rank row (xs ++ ys)
  added_to_front row xs ys rising begins = sym (added_rest row xs ys (above_begin (rank row) ys (rising_behind xs ys rising) begins))

  pub added_to_end : (row : R) (xs ys : List R) → IsRising rank (xs ++ ys) → (length ys ≡ 0 → AllBelow rank (rank row) xs)
      → (length ys ≡ 0) ⊎ BeginsBy rank (rank row) ys → xs ++ added rank row ys ≡ added rank row (xs ++ ys)
  added_to_end row xs ys rising behind (inl none) = sym (added_behind row xs ys (behind none))
  added_to_end row xs ys rising behind (inr by) = sym (added_behind row xs ys (below_front (rank row) xs ys rising by))

  below_more : (k : ℕ) (xs ys : List R) → AllBelow rank k xs → AllBelow rank k ys → AllBelow rank k (xs ++ ys)
  below_more k [] ys low below = below
  below_more k (x ∷ xs) ys low below = (low.0, below_more k xs ys low.1 below)

  -- all are below a rank that the last one is below
  pub below_last : (k : ℕ) (xs : List R) (last : R) (n : ℕ) → n + 1 ≡ length xs → last ≡ get_or xs n last → IsRising rank xs → rank last < k → AllBelow rank k xs
  below_last k xs last n is_last is rising lt =
      let split = last_split xs last n is_last is in
      let by : rank last ≤ k = omega (arith, lt) in
      let front = below_front k (take n xs) (last ∷ []) (subst (IsRising rank) split rising) by in
      subst (AllBelow rank k) (sym split) (below_more k (take n xs) (last ∷ []) front (lt, tt))

  pub below_left : (k : ℕ) (xs ys : List R) → AllBelow rank k (xs ++ ys) → AllBelow rank k xs
  below_left k [] ys below = tt
  below_left k (x ∷ xs) ys below = (below.0, below_left k xs ys below.1)

  above_front : (k : ℕ) (xs ys : List R) → AllAbove rank k (xs ++ ys) → AllAbove rank k xs
  above_front k [] ys over = tt
  above_front k (x ∷ xs) ys over = (over.0, above_front k xs ys over.1)

  pub rising_front : (xs ys : List R) → IsRising rank (xs ++ ys) → IsRising rank xs
  rising_front [] ys rising = tt
  rising_front (x ∷ xs) ys rising = (above_front (rank x) xs ys rising.0, rising_front xs ys rising.1)
