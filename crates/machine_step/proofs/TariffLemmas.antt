-- The rule of tariffs, by the rows that keep it.
use Rattle.std.proofs.Common.{◌≡◌, ℕ, suc, ◌+◌, ◌<◌, ◌≤◌, Bool, true, false, List, [], ◌∷◌, length, Option, Some, None, is_some, refl, arith}
use Rattle.std.specs.Prelude.{if◌then◌else◌, nat_lt, nat_le, ◌||◌, ◌&&◌}
use Rattle.std.specs.List.{list_all}
use Rattle.std.proofs.lemmas.Bool.Decides.{nat_tests}
use Rattle.std.proofs.lemmas.Bool.{and_parts, and_from}
use Rattle.sat_base.specs.declared.limits.TheConstants as limits
use Rattle.sat_base.specs.declared.rates.Tariff.{Tariff}
use Rattle.sat_base.specs.Ranks.{tariff_rank}
use Rattle.rows.specs.Rows.{row_at}
use Rattle.rows.specs.Slots.{with_row}
use Rattle.month_pay.proofs.ListFacts.{none_joined}
use Rattle.machine_step.specs.Rules.{bad_tariffs, missing_tariff, bad_tariff}
use Rattle.machine_step.proofs.RowLemmas.{row_at-with_row, all-with_row}
use Rattle.machine_step.proofs.LeftLemmas.{least-none}

module _ (first : ℕ) where
  tariffs-all : (rows : List Tariff) (i : ℕ) → bad_tariffs first i rows ≡ [] → i ≤ limits.TARIFFS → (list_all (λ row. nat_le first row.from.0) rows ≡ true) × (i + length rows ≤ limits.TARIFFS)
  tariffs-all [] i none le = (refl, omega arith)
  tariffs-all (row ∷ rest) i none le = go (nat_lt row.from.0 first) (nat_le limits.TARIFFS i) refl refl none (tariffs-all rest (suc i))
    where
      go : (early full : Bool) → nat_lt row.from.0 first ≡ early → nat_le limits.TARIFFS i ≡ full → (if early || full then row.from.0 ∷ bad_tariffs first (suc i) rest else bad_tariffs first (suc i) rest) ≡ []
          → (bad_tariffs first (suc i) rest ≡ [] → suc i ≤ limits.TARIFFS → (list_all (λ x. nat_le first x.from.0) rest ≡ true) × (suc i + length rest ≤ limits.TARIFFS))
          → ((nat_le first row.from.0 && list_all (λ x. nat_le first x.from.0) rest) ≡ true) × (i + suc (length rest) ≤ limits.TARIFFS)
      go true full e f h later = absurd cc
      go false true e f h later = absurd cc
      go false false e f h later =
          let below : i < limits.TARIFFS = grind (arith, nat_tests, f) in
          let rest_holds = later h (omega arith) in
          (and_from _ _ (grind (arith, nat_tests, e)) rest_holds.0, omega (arith, rest_holds.1))

  tariffs-back : (rows : List Tariff) (i : ℕ) → list_all (λ row. nat_le first row.from.0) rows ≡ true → i + length rows ≤ limits.TARIFFS → bad_tariffs first i rows ≡ []
  tariffs-back [] i all few = refl
  tariffs-back (row ∷ rest) i all few =
      let parts = and_parts (nat_le first row.from.0) _ all in
      let late = parts.0 in
      go (nat_lt row.from.0 first) (nat_le limits.TARIFFS i) (grind (arith, nat_tests, late)) (grind (arith, nat_tests)) (tariffs-back rest (suc i) parts.1 (omega arith))
    where
      go : (early full : Bool) → early ≡ false → full ≡ false → bad_tariffs first (suc i) rest ≡ [] → (if early || full then row.from.0 ∷ bad_tariffs first (suc i) rest else bad_tariffs first (suc i) rest) ≡ []
      go true full e f h = absurd cc
      go false true e f h = absurd cc
      go false false e f h = h

  pub tariffs_few : (rows : List Tariff) → bad_tariff first rows ≡ None → length rows ≤ limits.TARIFFS
  tariffs_few rows none = omega (arith, (tariffs-all rows 0 (none_joined (bad_tariffs first 0 rows) (missing_tariff first rows) (least-none _ none)).0 (omega arith)).1)

  there-back : (found : Option Tariff) → is_some found ≡ true → (if is_some found then [] else first ∷ []) ≡ []
  there-back (Some row) h = refl
  there-back None h = absurd cc

  there : (found : Option Tariff) → (if is_some found then [] else first ∷ []) ≡ [] → is_some found ≡ true
  there (Some row) h = refl
  there None h = absurd cc

  -- rates from a month on that is no earlier than the first
  pub tariff_put : (rows : List Tariff) (row : Tariff) → first ≤ row.from.0 → length (with_row tariff_rank rows row) ≤ limits.TARIFFS → bad_tariff first rows ≡ None → bad_tariff first (with_row tariff_rank rows row) ≡ None
  tariff_put rows row late few none =
      let parts = none_joined (bad_tariffs first 0 rows) (missing_tariff first rows) (least-none _ none) in
      let all = (tariffs-all rows 0 parts.0 (omega arith)).0 in
      let one : nat_le first row.from.0 ≡ true = grind (arith, nat_tests, late) in
      let good = tariffs-back (with_row tariff_rank rows row) 0 (all-with_row tariff_rank (λ x. nat_le first x.from.0) rows row all one) (omega arith) in
      let found = there (row_at tariff_rank rows first) parts.1 in
      let stays : is_some (row_at tariff_rank (with_row tariff_rank rows row) first) ≡ true = grind (arith, nat_tests, row_at-with_row tariff_rank rows row first, found) in
      rw (good, there-back (row_at tariff_rank (with_row tariff_rank rows row) first) stays) refl
