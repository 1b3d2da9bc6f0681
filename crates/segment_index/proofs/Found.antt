-- Which segment is found.
use Rattle.std.proofs.Common.{◌≡◌, ℕ, ◌<◌, ◌≤◌, Bool, true, false, List, [], ◌∷◌, Option, Some, None, inl, inr, refl, sym, subst, arith}
use Rattle.std.specs.Prelude.{filter, find}
use Rattle.std.proofs.lemmas.Bool.{cases_order}
use Rattle.std.proofs.lemmas.Bool.Decides.{nat_tests}
use Rattle.rows.specs.Rows.{row_at, AllAbove, IsRising}
use Rattle.rows.proofs.Rising.{none_above}
use Rattle.segment_index.specs.Segments.{lesser, least_by}

module _ {R : Type 0} (rank : R → ℕ) where
  -- a row behind the first one
  pub found_behind : (first : R) (rest : List R) (row : R) → AllAbove rank (rank first) rest → row_at rank rest (rank row) ≡ Some row → row_at rank (first ∷ rest) (rank row) ≡ Some row
  found_behind first rest row above found =
      let none : rank row ≤ rank first → row_at rank rest (rank row) ≡ None = λ le. none_above rank rest (rank first) (rank row) above le in
      grind (arith, nat_tests, found, none)

  -- a row that is left by a test was there
  pub found_kept : (test : R → Bool) (rows : List R) (k : ℕ) (row : R) → IsRising rank rows → row_at rank (filter test rows) k ≡ Some row → row_at rank rows k ≡ Some row
  found_kept test [] k row rising found = found
  found_kept test (first ∷ rest) k row rising found =
      let none : k ≤ rank first → row_at rank rest k ≡ None = λ le. none_above rank rest (rank first) k rising.0 le in
      grind (arith, nat_tests, found, none, found_kept test rest k row rising.1)

  -- and passes it
  pub found_passes : (test : R → Bool) (rows : List R) (k : ℕ) (row : R) → row_at rank (filter test rows) k ≡ Some row → test row ≡ true
  found_passes test [] k row found = absurd cc
  found_passes test (first ∷ rest) k row found = grind (arith, nat_tests, found, found_passes test rest k row)

  -- a row that passes is left
  pub kept_found : (test : R → Bool) (rows : List R) (k : ℕ) (row : R) → row_at rank rows k ≡ Some row → test row ≡ true → row_at rank (filter test rows) k ≡ Some row
  kept_found test [] k row found passes = found
  kept_found test (first ∷ rest) k row found passes = grind (arith, nat_tests, found, passes, kept_found test rest k row)

  -- ---- the first that passes a test

  pub find_none : (test : R → Bool) (rows : List R) → IsRising rank rows → ((row : R) → row_at rank rows (rank row) ≡ Some row → test row ≡ false) → find test rows ≡ None
  find_none test [] rising fails = refl
  find_none test (first ∷ rest) rising fails =
      let here : test first ≡ false = fails first (grind (arith, nat_tests)) in
      let behind : find test rest ≡ None = find_none test rest rising.1 (λ row found. fails row (found_behind first rest row rising.0 found)) in
      grind (arith, nat_tests, here, behind)

  pub find_some : (test : R → Bool) (rows : List R) (row : R) → IsRising rank rows → row_at rank rows (rank row) ≡ Some row → test row ≡ true
      → ((other : R) → row_at rank rows (rank other) ≡ Some other → test other ≡ true → rank row ≤ rank other) → find test rows ≡ Some row
  find_some test [] row rising found passes least = absurd cc
  find_some test (first ∷ rest) row rising found passes least =
      let here : test first ≡ true → rank row ≤ rank first = λ h. least first (grind (arith, nat_tests)) h in
      let none : rank row ≤ rank first → row_at rank rest (rank row) ≡ None = λ le. none_above rank rest (rank first) (rank row) rising.0 le in
      let behind : row_at rank rest (rank row) ≡ Some row → find test rest ≡ Some row =
      λ there. find_some test rest row rising.1 there passes (λ other o h. least other (found_behind first rest other rising.0 o) h) in
      grind (arith, nat_tests, found, passes, here, none, behind)

  -- what is said of the row that is found
  pub find_misses : (test : R → Bool) (rows : List R) (row : R) → find test rows ≡ None → row_at rank rows (rank row) ≡ Some row → test row ≡ false
  find_misses test [] row none found = absurd cc
  find_misses test (first ∷ rest) row none found = grind (arith, nat_tests, none, found, find_misses test rest row)

  pub find_passes : (test : R → Bool) (rows : List R) (row : R) → find test rows ≡ Some row → test row ≡ true
  find_passes test [] row is = absurd cc
  find_passes test (first ∷ rest) row is = grind (arith, nat_tests, is, find_passes test rest row)

  pub find_there : (test : R → Bool) (rows : List R) (row : R) → IsRising rank rows → find test rows ≡ Some row → row_at rank rows (rank row) ≡ Some row
  find_there test [] row rising is = absurd cc
  find_there test (first ∷ rest) row rising is =
      let behind : find test rest ≡ Some row → row_at rank (first ∷ rest) (rank row) ≡ Some row = λ e. found_behind first rest row rising.0 (find_there test rest row rising.1 e) in
      grind (arith, nat_tests, is, behind)

  pub find_first : (test : R → Bool) (rows : List R) (row other : R) → IsRising rank rows → find test rows ≡ Some row → row_at rank rows (rank other) ≡ Some other → test other ≡ true → rank row ≤ rank other
  find_first test [] row other rising is found passes = absurd cc
  find_first test (first ∷ rest) row other rising is found passes =
      let behind : row_at rank rest (rank other) ≡ Some other → find test rest ≡ Some row → rank row ≤ rank other = λ f e. find_first test rest row other rising.1 e f passes in
      let none : rank other ≤ rank first → row_at rank rest (rank other) ≡ None = λ le. none_above rank rest (rank first) (rank other) rising.0 le in
      grind (arith, nat_tests, is, found, passes, behind, none)

  -- tests that answer alike for the rows find the same one
  pub find_like : (p q : R → Bool) (rows : List R) → IsRising rank rows → ((row : R) → row_at rank rows (rank row) ≡ Some row → p row ≡ q row) → find p rows ≡ find q rows
  find_like p q [] rising like = refl
  find_like p q (first ∷ rest) rising like =
      let here : p first ≡ q first = like first (grind (arith, nat_tests)) in
      let behind : find p rest ≡ find q rest = find_like p q rest rising.1 (λ row found. like row (found_behind first rest row rising.0 found)) in
      grind (arith, nat_tests, here, behind)

  pub filter_none : (test : R → Bool) (rows : List R) → IsRising rank rows → ((row : R) → row_at rank rows (rank row) ≡ Some row → test row ≡ false) → filter test rows ≡ []
  filter_none test [] rising fails = refl
  filter_none test (first ∷ rest) rising fails =
      let here : test first ≡ false = fails first (grind (arith, nat_tests)) in
      let behind : filter test rest ≡ [] = filter_none test rest rising.1 (λ row found. fails row (found_behind first rest row rising.0 found)) in
      grind (arith, nat_tests, here, behind)

  -- ---- the first with the least number

  less_than : (a b i j : ℕ) → a ≤ b → (a ≡ b → i ≤ j) → j < i → a < b
  less_than a b i j le tie lt = grind (arith, le, tie, lt)

  module _ (number : R → ℕ) where
    -- it is one of the rows
    least_among : (first : R) (rest : List R) (at : Option R) (row : R) → AllAbove rank (rank first) rest → ((other : R) → at ≡ Some other → row_at rank rest (rank other) ≡ Some other)
        → Some (lesser number first at) ≡ Some row → row_at rank (first ∷ rest) (rank row) ≡ Some row
    least_among first rest None row above among is = let same : first ≡ row = cc in grind (arith, nat_tests, same)
    least_among first rest (Some other) row above among is = grind (arith, nat_tests, is, found_behind first rest other above (among other refl))

    least_there : (rows : List R) (row : R) → IsRising rank rows → least_by number rows ≡ Some row → row_at rank rows (rank row) ≡ Some row
    least_there [] row rising is = absurd cc
    least_there (first ∷ rest) row rising is = least_among first rest (least_by number rest) row rising.0 (λ other e. least_there rest other rising.1 e) is

    -- the first row, or a later one
    least_first : (first : R) (at : Option R) → ((other : R) → at ≡ Some other → number first ≤ number other) → Some (lesser number first at) ≡ Some first
    least_first first None least = refl
    least_first first (Some other) least = grind (arith, nat_tests, least other refl)

    least_later : (first row : R) → number row < number first → Some (lesser number first (Some row)) ≡ Some row
    least_later first row less = grind (arith, nat_tests, less)

    pub least_some : (rows : List R) (row : R) → IsRising rank rows → row_at rank rows (rank row) ≡ Some row
        → ((other : R) → row_at rank rows (rank other) ≡ Some other → (number row ≤ number other) × (number row ≡ number other → rank row ≤ rank other)) → least_by number rows ≡ Some row
    least_some [] row rising found least = absurd cc
    least_some (first ∷ rest) row rising found least =
        elim (cases_order (rank first) (rank row)) [
          | inl e ↦
              let same : first ≡ row = grind (arith, nat_tests, found, e) in
              subst (λ (r : R). Some (lesser number first (least_by number rest)) ≡ Some r) same
              (least_first first (least_by number rest) (λ other is. subst (λ (r : R). number r ≤ number other) (sym same) (least other (found_behind first rest other rising.0 (least_there rest other rising.1 is))).0))
          | inr other ↦
              elim other [
                | inl before ↦
                    let there : row_at rank rest (rank row) ≡ Some row = grind (arith, nat_tests, found, before) in
                    let behind : least_by number rest ≡ Some row = least_some rest row rising.1 there (λ o is. least o (found_behind first rest o rising.0 is)) in
                    let here : row_at rank (first ∷ rest) (rank first) ≡ Some first = grind (arith, nat_tests) in
                    let l = least first here in
                    let less : number row < number first = less_than (number row) (number first) (rank row) (rank first) l.0 l.1 before in
                    subst (λ (at : Option R). Some (lesser number first at) ≡ Some row) (sym behind) (least_later first row less)
                | inr after ↦
                    let none : row_at rank rest (rank row) ≡ None = none_above rank rest (rank first) (rank row) rising.0 (omega (arith, after)) in
                    absurd (grind (arith, nat_tests, found, after, none))
              ]
        ]
