-- What putting a row or removing one does to a list in the order of ranks, and to what is said of each row.
use Rattle.std.proofs.Common.{◌≡◌, ℕ, suc, ◌+◌, ◌≤◌, Bool, true, not, List, [], ◌∷◌, length, None, is_some, refl, arith}
use Rattle.std.specs.Prelude.{◌||◌, nat_le}
use Rattle.std.specs.List.{list_all}
use Rattle.std.proofs.lemmas.Bool.Decides.{nat_tests}
use Rattle.rows.specs.Rows.{row_at, without, IsRising}
use Rattle.rows.specs.Slots.{with_row}
use Rattle.rows.proofs.Rising.{none_above}
pub use Rattle.rows.proofs.Rising.{rising-with_row}
pub use Rattle.rows.proofs.Found.{row_at-with_row, row_left, row_got, all-found, rank-found}
pub use Rattle.rows.proofs.Lengths.{length-with_row, length-without-le}
pub use Rattle.month_pay.proofs.ListFacts.{each-with_row, each-found}
use Rattle.machine_step.specs.Rules.{first_bad}
use Rattle.machine_step.specs.Bounds.{Each}

module _ {R : Type 0} (rank : R → ℕ) where
  -- a row in place of another
  pub length-replaced : (rows : List R) (row : R) → IsRising rank rows → is_some (row_at rank rows (rank row)) ≡ true → length (with_row rank rows row) ≡ length rows
  length-replaced [] row rising there = cc
  length-replaced (first ∷ rest) row rising there =
      let none : rank row ≤ rank first → row_at rank rest (rank row) ≡ None = λ le. none_above rank rest (rank first) (rank row) rising.0 le in
      grind (arith, nat_tests, there, none, length-replaced rest row rising.1)

  pub all-with_row : (good : R → Bool) (rows : List R) (row : R) → list_all good rows ≡ true → good row ≡ true → list_all good (with_row rank rows row) ≡ true
  all-with_row good [] row all one = grind (arith, one)
  all-with_row good (first ∷ rest) row all one = grind (arith, nat_tests, all, one, all-with_row good rest row)

  pub all-without : (good : R → Bool) (rows : List R) (k : ℕ) → list_all good rows ≡ true → list_all good (without rank rows k) ≡ true
  all-without good [] k all = refl
  all-without good (first ∷ rest) k all = grind (arith, nat_tests, all, all-without good rest k)

  pub each-without : (P : R → Type 0) (rows : List R) (k : ℕ) → Each P rows → Each P (without rank rows k)
  each-without P [] k each = tt
  each-without P (first ∷ rest) k each = grind (arith, nat_tests, each.0, each.1, each-without P rest k each.1)

-- rows of a kind that has a cap, each of which is good by itself
module _ {R : Type 0} (cap : ℕ) (good : R → Bool) where
  pub capped-all : (rows : List R) (i : ℕ) → first_bad (λ j row. nat_le cap j || not (good row)) i rows ≡ None → list_all good rows ≡ true
  capped-all [] i none = refl
  capped-all (first ∷ rest) i none = grind (arith, nat_tests, none, capped-all rest (suc i))

  pub capped-length : (rows : List R) (i : ℕ) → first_bad (λ j row. nat_le cap j || not (good row)) i rows ≡ None → i ≤ cap → i + length rows ≤ cap
  capped-length [] i none le = omega arith
  capped-length (first ∷ rest) i none le = grind (arith, nat_tests, none, capped-length rest (suc i))

  pub capped-back : (rows : List R) (i : ℕ) → list_all good rows ≡ true → i + length rows ≤ cap → first_bad (λ j row. nat_le cap j || not (good row)) i rows ≡ None
  capped-back [] i all le = refl
  capped-back (first ∷ rest) i all le = grind (arith, nat_tests, all, le, capped-back rest (suc i))

-- rows of a kind without a cap
module _ {R : Type 0} (good : R → Bool) where
  pub plain-all : (rows : List R) (i : ℕ) → first_bad (λ j row. not (good row)) i rows ≡ None → list_all good rows ≡ true
  plain-all [] i none = refl
  plain-all (first ∷ rest) i none = grind (arith, nat_tests, none, plain-all rest (suc i))

  pub plain-back : (rows : List R) (i : ℕ) → list_all good rows ≡ true → first_bad (λ j row. not (good row)) i rows ≡ None
  plain-back [] i all = refl
  plain-back (first ∷ rest) i all = grind (arith, nat_tests, all, plain-back rest (suc i))
