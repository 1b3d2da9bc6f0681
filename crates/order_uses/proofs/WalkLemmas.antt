-- A walk over the candidates finds the first that is due.
use Rattle.std.proofs.Common.{◌≡◌, ℕ, ◌≤◌, Bool, true, false, cond, List, [], ◌∷◌, Option, Some, None, IsSome, refl, sym, ap, subst, ◌∙◌, inl, inr, arith}
use Rattle.std.specs.Prelude.{◌==◌, slice_get}
use Rattle.std.proofs.lemmas.Bool.{cases_lt, eq-eqb, eqb-false}
use Rattle.std.proofs.lemmas.Bool.Decides.{nat_tests}
use Rattle.std.proofs.lemmas.Option.{same_Some}
use Rattle.rows.specs.Rows.{Each, IsRising, first_above, row_at}
use Rattle.rows.proofs.Found.{rank-found}
use Rattle.rows.proofs.Rising.{none_above}
use Rattle.order_uses.specs.Due.{is_due, order_if_due}
use Rattle.order_uses.specs.Expiries.{candidate_rank}
use Rattle.order_uses.specs.Index.{IsIndexed}
use Rattle.order_uses.specs.Opening.{HasSerial}
use Rattle.order_uses.specs.Uses.{use_rank}
use Rattle.order_uses.specs.declared.expiry.Candidate.{Candidate}
use Rattle.order_uses.specs.declared.expiry.Expiry.{Expiry}
use Rattle.order_uses.specs.declared.row.OrderUse.{OrderUse}
use Rattle.order_uses.proofs.DueLemmas.{due_first, due_in}
use Rattle.order_uses.proofs.TakeLemmas.{each_found}
use Rattle.order_uses.proofs.IndexLemmas.{above_there, due_listed, first_there}

-- whatever is due stands at the next candidate, or behind it
abbrev pub DueFrom : List ℕ → ℕ → List OrderUse → Option Candidate → Type 0
DueFrom key moment rows next = (k : ℕ) (row : OrderUse) → row_at use_rank rows k ≡ Some row → is_due key moment row ≡ true → (d : Candidate) × (next ≡ Some d) × (d.serial ≤ k)

module _ (key : List ℕ) (rows : List OrderUse) (moment : ℕ) (waiting : List Expiry) (candidates : List Candidate) (indexed : IsIndexed key rows moment waiting candidates)
    (serials : Each HasSerial rows) (rising : IsRising candidate_rank candidates) where
  is_listed : (k : ℕ) (row : OrderUse) → row_at use_rank rows k ≡ Some row → is_due key moment row ≡ true → IsSome (row_at candidate_rank candidates k)
  is_listed k row found due = due_listed key rows moment waiting candidates indexed k row (each_found HasSerial rows k row serials found) found due

  pub due_from_first : DueFrom key moment rows (slice_get candidates 0)
  due_from_first k row found due = first_there candidate_rank candidates k rising (is_listed k row found due)

  pub due_from_next : (d : Candidate) → DueFrom key moment rows (Some d) → ((row : OrderUse) → row_at use_rank rows d.serial ≡ Some row → is_due key moment row ≡ true → ⊥)
      → DueFrom key moment rows (first_above candidate_rank candidates d.serial)
  due_from_next d from none k row found due =
      let at = from k row found due in
      let le : d.serial ≤ k = subst (λ (x : Candidate). x.serial ≤ k) (sym (same_Some _ _ at.1)) at.2 in
      elim (cases_lt d.serial k) [
        | inl lt ↦ above_there candidate_rank candidates d.serial k rising (is_listed k row found due) lt
        | inr ge ↦ let same : k ≡ d.serial = omega (arith, le, ge) in absurd (none row (ap (row_at use_rank rows) (sym same) ∙ found) due)
      ]

found_first : (first : OrderUse) (rest : List OrderUse) → row_at use_rank (first ∷ rest) first.serial.0 ≡ Some first
found_first first rest = ap (λ (b : Bool). cond b (Some first) (row_at use_rank rest first.serial.0)) (eq-eqb first.serial.0 first.serial.0 refl)

found_behind : (first : OrderUse) (rest : List OrderUse) (k : ℕ) (r : OrderUse) → IsRising use_rank (first ∷ rest) → row_at use_rank rest k ≡ Some r → row_at use_rank (first ∷ rest) k ≡ Some r
found_behind first rest k r rising at =
    let later : k ≤ first.serial.0 → row_at use_rank rest k ≡ None = λ le. none_above use_rank rest first.serial.0 k rising.0 le in
    grind (arith, nat_tests, later, at)

-- the least that is due is found
pub least_due : (key : List ℕ) (moment : ℕ) (rows : List OrderUse) (row : OrderUse) → IsRising use_rank rows → row_at use_rank rows row.serial.0 ≡ Some row → is_due key moment row ≡ true
    → ((k : ℕ) (r : OrderUse) → row_at use_rank rows k ≡ Some r → is_due key moment r ≡ true → row.serial.0 ≤ k) → due_in key moment rows ≡ Some row.order
least_due key moment [] row rising found due least = absurd cc
least_due key moment (first ∷ rest) row rising found due least =
    by_test (first.serial.0 == row.serial.0) refl
    (λ there. least_due key moment rest row rising.1 there due (λ k r at is. least k r (found_behind first rest k r rising at) is)) found
  where
    by_due : (b : Bool) → is_due key moment first ≡ b → (first.serial.0 ≡ row.serial.0 → ⊥) → (row_at use_rank rest row.serial.0 ≡ Some row → due_in key moment rest ≡ Some row.order)
        → row_at use_rank rest row.serial.0 ≡ Some row → due_in key moment (first ∷ rest) ≡ Some row.order
    by_due true is ne more there =
        let le : row.serial.0 ≤ first.serial.0 = least first.serial.0 first (found_first first rest) is in
        let none = none_above use_rank rest first.serial.0 row.serial.0 rising.0 le in
        absurd cc
    by_due false is ne more there = due_first key moment first rest false is ∙ more there

    by_test : (b : Bool) → (first.serial.0 == row.serial.0) ≡ b → (row_at use_rank rest row.serial.0 ≡ Some row → due_in key moment rest ≡ Some row.order)
        → cond b (Some first) (row_at use_rank rest row.serial.0) ≡ Some row → due_in key moment (first ∷ rest) ≡ Some row.order
    by_test true test more is =
        let same : first ≡ row = same_Some _ _ is in
        subst (λ (r : OrderUse). due_in key moment (r ∷ rest) ≡ Some row.order) (sym same) (due_first key moment row rest true due)
    by_test false test more is = by_due (is_due key moment first) refl (eqb-false first.serial.0 row.serial.0 test) more is

pub none_due : (key : List ℕ) (moment : ℕ) (rows : List OrderUse) → IsRising use_rank rows → ((k : ℕ) (r : OrderUse) → row_at use_rank rows k ≡ Some r → is_due key moment r ≡ true → ⊥) → due_in key moment rows ≡ None
none_due key moment [] rising none = refl
none_due key moment (first ∷ rest) rising none =
    by_due (is_due key moment first) refl (none_due key moment rest rising.1 (λ k r at is. none k r (found_behind first rest k r rising at) is))
  where
    by_due : (b : Bool) → is_due key moment first ≡ b → due_in key moment rest ≡ None → due_in key moment (first ∷ rest) ≡ None
    by_due true is more = absurd (none first.serial.0 first (found_first first rest) is)
    by_due false is more = due_first key moment first rest false is ∙ more

-- ---- where the walk ends

module _ (key : List ℕ) (moment : ℕ) (rows : List OrderUse) where
  pub not_due_at : (place : ℕ) → order_if_due key moment (row_at use_rank rows place) ≡ None → (row : OrderUse) → row_at use_rank rows place ≡ Some row → is_due key moment row ≡ true → ⊥
  not_due_at place none row there due =
      let gone : cond (is_due key moment row) (Some row.order) None ≡ None = ap (order_if_due key moment) (sym there) ∙ none in
      let here : cond (is_due key moment row) (Some row.order) None ≡ Some row.order = ap (λ (b : Bool). cond b (Some row.order) None) due in
      cc

  pub none_from : IsRising use_rank rows → (next : Option Candidate) → next ≡ None → DueFrom key moment rows next → due_in key moment rows ≡ None
  none_from rising next none from = none_due key moment rows rising (λ k r found due. let at = (from k r found due).1 in cc)

  found_at : (next : Option Candidate) (d : Candidate) → IsRising use_rank rows → next ≡ Some d → DueFrom key moment rows next → (kept : Option OrderUse) (order : List ℕ) → row_at use_rank rows d.serial ≡ kept
      → order_if_due key moment kept ≡ Some order → due_in key moment rows ≡ Some order
  found_at next d rising is from None order there found = absurd cc
  found_at next d rising is from (Some row) order there found = by_due (is_due key moment row) refl found
    where
      by_due : (b : Bool) → is_due key moment row ≡ b → cond b (Some row.order) None ≡ Some order → due_in key moment rows ≡ Some order
      by_due true due found' =
          let rank : row.serial.0 ≡ d.serial = rank-found use_rank rows d.serial row there in
          least_due key moment rows row rising (ap (row_at use_rank rows) rank ∙ there) due
          (λ k r at due'. let here = from k r at due' in
          let same : d ≡ here.0 = same_Some _ _ (sym is ∙ here.1) in
          subst (λ (n : ℕ). n ≤ k) (sym rank) (subst (λ (x : Candidate). x.serial ≤ k) (sym same) here.2)) ∙ found'
      by_due false due found' = absurd cc

  pub found_from : (next : Option Candidate) (d : Candidate) (order : List ℕ) → IsRising use_rank rows → next ≡ Some d → DueFrom key moment rows next
      → order_if_due key moment (row_at use_rank rows d.serial) ≡ Some order → due_in key moment rows ≡ Some order
  found_from next d order rising is from found = found_at next d rising is from (row_at use_rank rows d.serial) order refl found
