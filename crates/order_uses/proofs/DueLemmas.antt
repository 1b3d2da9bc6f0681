-- A walk over the rows until the first that is due.
use Rattle.std.proofs.Common.{◌≡◌, ℕ, zero, suc, ◌+◌, ◌<◌, Bool, true, false, cond, List, [], ◌∷◌, drop, Option, Some, refl, ap, subst, ◌∙◌, arith}
use Rattle.std.specs.Prelude.{filter, slice_get}
use Rattle.std.proofs.lemmas.Bool.Decides.{nat_tests}
use Rattle.std.proofs.lemmas.Option.{same_Some}
use Rattle.rows.specs.Rows.{AllAbove, IsRising, first_above}
use Rattle.order_uses.specs.Due.{first_order, is_due}
use Rattle.order_uses.specs.declared.row.OrderUse.{OrderUse}

module _ {R : Type 0} (rank : R → ℕ) where
  above_at : (rows : List R) (n i : ℕ) (row : R) → AllAbove rank n rows → slice_get rows i ≡ Some row → n < rank row
  above_at [] n i row above e = absurd cc
  above_at (first ∷ rest) n zero row above e = let same : first ≡ row = same_Some _ _ e in subst (λ (r : R). n < rank r) same above.0
  above_at (first ∷ rest) n (suc i) row above e = above_at rest n i row above.1 e

  first_of_above : (rows : List R) (n : ℕ) → AllAbove rank n rows → first_above rank rows n ≡ slice_get rows 0
  first_of_above [] n above = refl
  first_of_above (first ∷ rest) n above = grind (arith, nat_tests, above.0)

  -- behind a row the next one stands
  next_at : (rows : List R) (i : ℕ) (row : R) → IsRising rank rows → slice_get rows i ≡ Some row → first_above rank rows (rank row) ≡ slice_get rows (suc i)
  next_at [] i row rising e = absurd cc
  next_at (first ∷ rest) zero row rising e =
      let same : first ≡ row = same_Some _ _ e in
      subst (λ (r : R). first_above rank (first ∷ rest) (rank r) ≡ slice_get rest 0) same
      (let next = first_of_above rest (rank first) rising.0 in grind (arith, nat_tests))
  next_at (first ∷ rest) (suc i) row rising e =
      let later : rank first < rank row = above_at rest (rank first) i row rising.0 e in
      let next = next_at rest i row rising.1 e in
      grind (arith, nat_tests, later, next)

  pub next_row : (rows : List R) (i : ℕ) (row : R) → IsRising rank rows → slice_get rows i ≡ Some row → first_above rank rows (rank row) ≡ slice_get rows (i + 1)
  next_row rows i row rising e = let one : suc i ≡ i + 1 = omega arith in next_at rows i row rising e ∙ ap (slice_get rows) one

cut_at : (rows : List OrderUse) (i : ℕ) (row : OrderUse) → slice_get rows i ≡ Some row → drop i rows ≡ row ∷ drop (suc i) rows
cut_at [] i row e = absurd cc
cut_at (first ∷ rest) zero row e = ap (λ (r : OrderUse). r ∷ rest) (same_Some _ _ e)
cut_at (first ∷ rest) (suc i) row e = cut_at rest i row e

module _ (key : List ℕ) (now : ℕ) where
  -- the first that is due among these
  abbrev pub due_in : List OrderUse → Option (List ℕ)
  due_in rows = first_order (filter (is_due key now) rows)

  pub due_first : (row : OrderUse) (rest : List OrderUse) (b : Bool) → is_due key now row ≡ b → due_in (row ∷ rest) ≡ cond b (Some row.order) (due_in rest)
  due_first row rest true is = rw is refl
  due_first row rest false is = rw is refl

  pub due_here : (rows : List OrderUse) (i : ℕ) (row : OrderUse) → slice_get rows i ≡ Some row → is_due key now row ≡ true → due_in (drop i rows) ≡ Some row.order
  due_here rows i row e is = ap due_in (cut_at rows i row e) ∙ due_first row (drop (suc i) rows) true is

  pub due_later : (rows : List OrderUse) (i : ℕ) (row : OrderUse) → slice_get rows i ≡ Some row → is_due key now row ≡ false → due_in (drop i rows) ≡ due_in (drop (i + 1) rows)
  due_later rows i row e is =
      let one : suc i ≡ i + 1 = omega arith in
      ap due_in (cut_at rows i row e) ∙ due_first row (drop (suc i) rows) false is ∙ ap (λ (n : ℕ). due_in (drop n rows)) one
