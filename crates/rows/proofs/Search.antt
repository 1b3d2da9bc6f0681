-- Where a binary search over rising ranks ends: at the row of a rank, or at the gap for it.
use Rattle.std.proofs.Common.{◌≡◌, ℕ, zero, suc, ◌<◌, ◌≤◌, List, [], ◌∷◌, length, get_or, None, Result, Ok, Err, IfOk, IfErr, refl, sym, ◌∙◌, arith}
use Rattle.std.specs.Prelude.{slice_get}
use Rattle.std.specs.Ordering.{nat_cmp, ordering_index}
use Rattle.std.specs.List.Sorted.{IsSearchInRange, IsBinarySearchResult, IsNonDecreasingBy}
use Rattle.std.proofs.lemmas.Bool.Decides.{nat_tests}
use Rattle.std.proofs.lemmas.Cmp.{ranked}
use Rattle.std.proofs.lemmas.List.Sorted.{IsNonDecreasingBy-from_default}
use Rattle.rows.specs.Rows.{row_at, first_above, replaced, AllAbove, IsRising}
use Rattle.rows.specs.Place.{IsAt, IsGapFor}
use Rattle.rows.proofs.Lengths.{without_none, without_above}

module _ {R : Type 0} (rank : R → ℕ) where
  above_at : (k : ℕ) (rows : List R) (i : ℕ) (d : R) → AllAbove rank k rows → i < length rows → k < rank (get_or rows i d)
  above_at k [] i d above lt = absurd (omega arith)
  above_at k (first ∷ rest) zero d above lt = above.0
  above_at k (first ∷ rest) (suc i) d above lt = above_at k rest i d above.1 (omega arith)

  ranks_rise : (rows : List R) (d : R) → IsRising rank rows → (i j : ℕ) → i ≤ j → j < length rows → rank (get_or rows i d) ≤ rank (get_or rows j d)
  ranks_rise [] d rising i j le lt = absurd (omega arith)
  ranks_rise (first ∷ rest) d rising zero zero le lt = omega arith
  ranks_rise (first ∷ rest) d rising zero (suc j) le lt = let less = above_at (rank first) rest j d rising.0 (omega arith) in omega arith
  ranks_rise (first ∷ rest) d rising (suc i) zero le lt = absurd (omega arith)
  ranks_rise (first ∷ rest) d rising (suc i) (suc j) le lt = ranks_rise rest d rising.1 i j (omega arith) (omega arith)

  -- ---- at the row of the rank

  first_of_above : (rows : List R) (n k : ℕ) → AllAbove rank n rows → k ≤ n → first_above rank rows k ≡ slice_get rows 0
  first_of_above [] n k above le = refl
  first_of_above (first ∷ rest) n k above le = grind (arith, nat_tests, above.0)

  replaced_above : (row : R) (rows : List R) → AllAbove rank (rank row) rows → replaced rank row rows ≡ rows
  replaced_above row [] above = refl
  replaced_above row (first ∷ rest) above = grind (arith, nat_tests, above.0, replaced_above row rest above.1)

  found_at : (rows : List R) (k i : ℕ) (d : R) → IsRising rank rows → i < length rows → rank (get_or rows i d) ≡ k → IsAt rank rows k i
  found_at [] k i d rising lt e = absurd (omega arith)
  found_at (first ∷ rest) k zero d rising lt e = record {
    in_range = lt;
    has_rank = grind (arith, nat_tests);
    next = let front = first_of_above rest (rank first) k rising.0 (omega arith) in grind (arith, nat_tests);
    in_place = λ row same. let stay = replaced_above row rest (rw (same ∙ sym e) rising.0) in grind (arith, nat_tests);
    left_out = let stay = without_above rank rest (rank first) k rising.0 (omega arith) in grind (arith, nat_tests);
  }
  found_at (first ∷ rest) k (suc i) d rising lt e =
      let at = found_at rest k i d rising.1 (omega arith) e in
      let less = above_at (rank first) rest i d rising.0 (omega arith) in
      record {
        in_range = lt;
        has_rank = let later = at.has_rank in grind (arith, nat_tests);
        next = let later = at.next in grind (arith, nat_tests);
        in_place = λ row same. let later = at.in_place row same in grind (arith, nat_tests);
        left_out = let later = at.left_out in grind (arith, nat_tests);
      }

  -- so there is one
  pub is_there : (rows : List R) (i : ℕ) → i < length rows → slice_get rows i ≡ None → ⊥
  is_there [] i lt none = omega arith
  is_there (first ∷ rest) zero lt none = cc
  is_there (first ∷ rest) (suc i) lt none = is_there rest i (omega arith) none

  -- ---- at the gap for the rank

  -- smaller ranks stand before i, greater ones from i on
  record Parts (rows : List R) (k i : ℕ) (d : R) : Type 0 where
    in_range : i ≤ length rows
    before : (j : ℕ) → j < i → rank (get_or rows j d) < k
    after : (j : ℕ) → i ≤ j → j < length rows → k < rank (get_or rows j d)

  gap_at : (rows : List R) (k i : ℕ) (d : R) → Parts rows k i d → IsGapFor rank rows k i
  gap_at [] k zero d parts = record { in_range = omega arith; absent = refl; next = refl; in_order = λ row same. refl; none_out = refl }
  gap_at [] k (suc i) d parts = absurd (let h = parts.in_range in omega arith)
  gap_at (first ∷ rest) k zero d parts =
      let here : k < rank first = parts.after 0 (omega arith) (omega arith) in
      let gap = gap_at rest k 0 d (record { in_range = omega arith; before = λ j lt. absurd (omega arith); after = λ j le lt. parts.after (suc j) (omega arith) (omega arith) }) in
      let none : row_at rank (first ∷ rest) k ≡ None = let e = gap.absent in grind (arith, nat_tests) in
      record {
        in_range = omega arith;
        absent = none;
        next = grind (arith, nat_tests);
        in_order = λ row same. grind (arith, nat_tests);
        none_out = without_none rank (first ∷ rest) k none;
      }
  gap_at (first ∷ rest) k (suc i) d parts =
      let here : rank first < k = parts.before 0 (omega arith) in
      let gap = gap_at rest k i d (record { in_range = let h = parts.in_range in omega arith; before = λ j lt. parts.before (suc j) (omega arith); after = λ j le lt. parts.after (suc j) (omega arith) (omega arith) }) in
      let none : row_at rank (first ∷ rest) k ≡ None = let e = gap.absent in grind (arith, nat_tests) in
      record {
        in_range = let h = parts.in_range in omega arith;
        absent = none;
        next = let e = gap.next in grind (arith, nat_tests);
        in_order = λ row same. let e = gap.in_order row same in grind (arith, nat_tests);
        none_out = without_none rank (first ∷ rest) k none;
      }

  -- ---- the search

  comparisons_rise : (rows : List R) (d : R) → IsRising rank rows → (k : ℕ) → IsNonDecreasingBy (λ row. ordering_index (nat_cmp (rank row) k)) rows
  comparisons_rise rows d rising k = IsNonDecreasingBy-from_default (λ row. ordering_index (nat_cmp (rank row) k)) rows d (λ i j le lt.
      let rise : rank (get_or rows i d) ≤ rank (get_or rows j d) = ranks_rise rows d rising i j le lt in
      grind (arith, nat_tests))

  searched_from : (rows : List R) (d : R) → IsRising rank rows → (k : ℕ) (r : Result ℕ ℕ) → IsSearchInRange r (length rows) → IsBinarySearchResult (λ row. nat_cmp (rank row) k) rows r → record { found : IfOk r (IsAt rank rows k); absent : IfErr r (IsGapFor rank rows k) }
  searched_from rows d rising k (Ok at) in_range equal = record { found = found_at rows k at d rising in_range (ranked _ k _ (sym (equal d))); absent = tt }
  searched_from rows d rising k (Err at) in_range parted = record {
    found = tt;
    absent = gap_at rows k at d (record {
      in_range = in_range;
      before = λ j lt. ranked _ k _ (sym ((parted (comparisons_rise rows d rising k)).0 j d (omega arith) lt));
      after = λ j le lt. ranked _ k _ (sym ((parted (comparisons_rise rows d rising k)).1 j d le lt));
    });
  }

  pub searched : (rows : List R) → IsRising rank rows → (k : ℕ) (r : Result ℕ ℕ) → IsSearchInRange r (length rows) → IsBinarySearchResult (λ row. nat_cmp (rank row) k) rows r → record { found : IfOk r (IsAt rank rows k); absent : IfErr r (IsGapFor rank rows k) }
  searched [] rising k (Ok at) in_range equal = absurd (omega arith)
  searched [] rising k (Err zero) in_range parted = record { found = tt; absent = record { in_range = in_range; absent = refl; next = refl; in_order = λ row same. refl; none_out = refl } }
  searched [] rising k (Err (suc at)) in_range parted = absurd (omega arith)
  searched (first ∷ rest) rising k r in_range result = searched_from (first ∷ rest) first rising k r in_range result
