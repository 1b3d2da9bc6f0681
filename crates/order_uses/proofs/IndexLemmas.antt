-- What becomes of an index of the rows.
use Rattle.std.proofs.Common.{◌≡◌, ℕ, ◌*◌, ◌^◌, ◌<◌, ◌≤◌, Bool, true, false, cond, not, ◌||◌, List, [], ◌∷◌, Some, None, IsSome, Result, Ok, Err, refl, sym, ap, subst, ◌∙◌, inl, inr, arith}
use Rattle.std.specs.Prelude.{◌==◌, nat_lt, nat_le, slice_get}
use Rattle.std.proofs.lemmas.Bool.{and_parts, cases_lt, eq-eqb, eqb-true, leb-true, ltb-true, not-true, or_cases}
use Rattle.std.proofs.lemmas.Bool.Decides.{nat_tests}
use Rattle.std.proofs.lemmas.Option.{same_Some}
use Rattle.rows.specs.Rows.{IsRising, first_above, row_at, without}
use Rattle.rows.specs.Slots.{with_row}
use Rattle.rows.proofs.Found.{rank-found, row_at-with_row, row_at-without}
use Rattle.rows.proofs.Rising.{none_above}
use Rattle.order_limits.specs.Read.{offer_of}
use Rattle.order_limits.specs.declared.limit.Order.{Order}
use Rattle.order_limits.specs.declared.read.OrderErr.{OrderErr}
use Rattle.order_uses.specs.Due.{is_due, is_order_due}
use Rattle.order_uses.specs.Expiries.{candidate_rank, expiry_place, expiry_rank}
use Rattle.order_uses.specs.Index.{IsIndexed, IsListed, IsOver, NoneBefore, Waits, until_of}
use Rattle.order_uses.specs.Opening.{HasSerial}
use Rattle.order_uses.specs.Table.{IsTable}
use Rattle.order_uses.specs.Uses.{use_rank}
use Rattle.order_uses.specs.declared.expiry.Candidate.{Candidate}
use Rattle.order_uses.specs.declared.expiry.Expiry.{Expiry}
use Rattle.order_uses.specs.declared.row.OrderUse.{OrderUse}

-- ---- what a look-up finds

module _ {R : Type 0} (rank : R → ℕ) where
  some_put : (rows : List R) (x : R) (k : ℕ) → IsSome (row_at rank rows k) → IsSome (row_at rank (with_row rank rows x) k)
  some_put rows x k some = subst IsSome (sym (row_at-with_row rank rows x k)) (by_test (rank x == k))
    where
      by_test : (b : Bool) → IsSome (cond b (Some x) (row_at rank rows k))
      by_test true = refl
      by_test false = some

  put_here : (rows : List R) (x : R) → row_at rank (with_row rank rows x) (rank x) ≡ Some x
  put_here rows x = row_at-with_row rank rows x (rank x) ∙ ap (λ (b : Bool). cond b (Some x) (row_at rank rows (rank x))) (eq-eqb (rank x) (rank x) refl)

  some_left : (rows : List R) (j k : ℕ) → (j ≡ k → ⊥) → IsSome (row_at rank rows k) → IsSome (row_at rank (without rank rows j) k)
  some_left rows j k ne some = let e = row_at-without rank rows j k in grind (arith, nat_tests, e, ne, some)

  -- the first of rows that rise has the least rank
  first_least : (rows : List R) (first : R) (k : ℕ) → IsRising rank rows → slice_get rows 0 ≡ Some first → IsSome (row_at rank rows k) → rank first ≤ k
  first_least [] first k rising at some = absurd cc
  first_least (f ∷ rest) first k rising at some = subst (λ (r : R). rank r ≤ k) (same_Some _ _ at) (elim (cases_lt k (rank f)) [
    | inl lt ↦ absurd (let none = none_above rank rest (rank f) k rising.0 (omega arith) in grind (arith, nat_tests, none, some, lt))
    | inr le ↦ le
  ])

  pub first_there : (rows : List R) (k : ℕ) → IsRising rank rows → IsSome (row_at rank rows k) → (d : R) × (slice_get rows 0 ≡ Some d) × (rank d ≤ k)
  first_there [] k rising some = absurd cc
  first_there (f ∷ rest) k rising some = (f, refl, first_least (f ∷ rest) f k rising refl some)

  pub above_there : (rows : List R) (n k : ℕ) → IsRising rank rows → IsSome (row_at rank rows k) → n < k → (d : R) × (first_above rank rows n ≡ Some d) × (rank d ≤ k)
  above_there [] n k rising some lt = absurd cc
  above_there (f ∷ rest) n k rising some lt = elim (cases_lt n (rank f)) [
    | inl below ↦ (f, grind (arith, nat_tests, below), first_least (f ∷ rest) f k rising refl some)
    | inr above ↦
        let later : IsSome (row_at rank rest k) = grind (arith, nat_tests, above, lt, some) in
        let found = above_there rest n k rising.1 later lt in
        let e = found.1 in (found.0, grind (arith, nat_tests, above, e), found.2)
  ]

-- one row of a rank that is found, among others
same_ok : (a b : Order) (r : Result Order OrderErr) → r ≡ Ok a → r ≡ Ok b → a ≡ b
same_ok a b r e f = cc

same_place : (a b s t : ℕ) → s < 2 ^ 64 → t < 2 ^ 64 → expiry_place a s ≡ expiry_place b t → (a ≡ b) × (s ≡ t)
unfolding expiry_place
same_place a b s t fs ft e = (omega (arith, e), omega (arith, e))

abbrev expiry_of : ℕ → ℕ → Expiry
expiry_of expires serial = record { expires = expires; serial = serial }

same_expiry : (a b s t : ℕ) → a ≡ b → s ≡ t → expiry_of a s ≡ expiry_of b t
same_expiry a b s t e f = rw (e, f) refl

waits_more : (moment : ℕ) (waiting : List Expiry) (x : Expiry) (row : OrderUse) (order : Order) → x.serial < 2 ^ 64 → HasSerial row → Waits moment waiting row order
    → Waits moment (with_row expiry_rank waiting x) row order
waits_more moment waiting x row order fx fits waits = record {
  listed = row_at-with_row expiry_rank waiting x (expiry_place order.limit.expires row.serial.0) ∙ by_test (expiry_rank x == expiry_place order.limit.expires row.serial.0) refl;
  later = waits.later;
  unused = waits.unused;
}
  where
    by_test : (b : Bool) → (expiry_rank x == expiry_place order.limit.expires row.serial.0) ≡ b
        → cond b (Some x) (row_at expiry_rank waiting (expiry_place order.limit.expires row.serial.0)) ≡ Some (expiry_of order.limit.expires row.serial.0)
    by_test true test =
        let same = same_place x.expires order.limit.expires x.serial row.serial.0 fx fits (eqb-true _ _ test) in
        ap (λ (e : Expiry). Some e) (same_expiry x.expires order.limit.expires x.serial row.serial.0 same.0 same.1)
    by_test false test = waits.listed

from_place : (now expires serial : ℕ) → serial < 2 ^ 64 → now * 2 ^ 64 ≤ expiry_place expires serial → now ≤ expires
unfolding expiry_place
from_place now expires serial fits le = omega (arith, fits, le)

place_from : (now expires serial place : ℕ) → now ≤ expires → expiry_place expires serial ≤ place → now * 2 ^ 64 ≤ place
unfolding expiry_place
place_from now expires serial place le least = omega (arith, le, least)

no_order : (err : OrderErr) (order : Order) (r : Result Order OrderErr) → r ≡ Err err → r ≡ Ok order → ⊥
no_order err order r e f = cc

-- ---- a row is put, and listed

module _ (key : List ℕ) (rows : List OrderUse) (moment : ℕ) (waiting : List Expiry) (candidates : List Candidate) (indexed : IsIndexed key rows moment waiting candidates) where
  -- each row is listed, if the one that is put is, and others stay listed
  listed_by : (row : OrderUse) (waiting' : List Expiry) (candidates' : List Candidate)
      → ((r : OrderUse) (order : Order) → HasSerial r → IsListed moment waiting candidates r order → IsListed moment waiting' candidates' r order)
      → ((order : Order) → offer_of key row.order ≡ Ok order → IsListed moment waiting' candidates' row order)
      → IsIndexed key (with_row use_rank rows row) moment waiting' candidates'
  listed_by row waiting' candidates' grows own k r order found fits not_done offered in_time =
      by_test (row.serial.0 == k) (sym (row_at-with_row use_rank rows row k) ∙ found)
    where
      by_test : (b : Bool) → cond b (Some row) (row_at use_rank rows k) ≡ Some r → IsListed moment waiting' candidates' r order
      by_test true is =
          let same : row ≡ r = same_Some _ _ is in
          subst (λ (x : OrderUse). IsListed moment waiting' candidates' x order) same (own order (ap (λ (x : OrderUse). offer_of key x.order) same ∙ offered))
      by_test false is = grows r order fits (indexed k r order is fits not_done offered in_time)

  pub noted_candidate : (row : OrderUse) (candidate : Candidate) → candidate.serial ≡ row.serial.0 → IsIndexed key (with_row use_rank rows row) moment waiting (with_row candidate_rank candidates candidate)
  noted_candidate row candidate is = listed_by row waiting (with_row candidate_rank candidates candidate)
      (λ r order fits listed. elim listed [ inl some ↦ inl (some_put candidate_rank candidates candidate r.serial.0 some) | inr waits ↦ inr waits ])
      (λ order offered. inl (subst (λ (n : ℕ). IsSome (row_at candidate_rank (with_row candidate_rank candidates candidate) n)) is (subst IsSome (sym (put_here candidate_rank candidates candidate)) refl)))

  pub noted_waiting : (row : OrderUse) (order : Order) → HasSerial row → offer_of key row.order ≡ Ok order → moment ≤ order.limit.expires → (row.served ≡ order.limit.limit → ⊥)
      → IsIndexed key (with_row use_rank rows row) moment (with_row expiry_rank waiting (expiry_of order.limit.expires row.serial.0)) candidates
  noted_waiting row order fits offered later unused =
      let one = expiry_of order.limit.expires row.serial.0 in
      listed_by row (with_row expiry_rank waiting one) candidates
      (λ r o fits' listed. elim listed [ inl some ↦ inl some | inr waits ↦ inr (waits_more moment waiting one r o fits fits' waits) ])
      (λ o offered'. subst (λ (x : Order). IsListed moment (with_row expiry_rank waiting one) candidates row x) (same_ok order o (offer_of key row.order) offered offered')
      (inr (record { listed = put_here expiry_rank waiting one; later = later; unused = unused })))

  pub noted_none : (row : OrderUse) (err : OrderErr) → offer_of key row.order ≡ Err err → IsIndexed key (with_row use_rank rows row) moment waiting candidates
  noted_none row err refused = listed_by row waiting candidates (λ r order fits listed. listed) (λ order offered. absurd (no_order err order (offer_of key row.order) refused offered))

  -- one that expired becomes a candidate
  pub expired_one : (first : Expiry) (candidate : Candidate) → row_at expiry_rank waiting (expiry_rank first) ≡ Some first → candidate.serial ≡ first.serial
      → IsIndexed key rows moment (without expiry_rank waiting (expiry_rank first)) (with_row candidate_rank candidates candidate)
  expired_one first candidate there is k r order found fits not_done offered in_time = elim (indexed k r order found fits not_done offered in_time) [
    | inl some ↦ inl (some_put candidate_rank candidates candidate r.serial.0 some)
    | inr waits ↦ by_test waits (expiry_rank first == expiry_place order.limit.expires r.serial.0) refl
  ]
    where
      by_test : Waits moment waiting r order → (b : Bool) → (expiry_rank first == expiry_place order.limit.expires r.serial.0) ≡ b
          → IsListed moment (without expiry_rank waiting (expiry_rank first)) (with_row candidate_rank candidates candidate) r order
      by_test waits true test =
          let here : first ≡ expiry_of order.limit.expires r.serial.0 = same_Some _ _ (sym there ∙ ap (row_at expiry_rank waiting) (eqb-true _ _ test) ∙ waits.listed) in
          let serial : candidate.serial ≡ r.serial.0 = is ∙ ap (λ (e : Expiry). e.serial) here in
          inl (subst (λ (n : ℕ). IsSome (row_at candidate_rank (with_row candidate_rank candidates candidate) n)) serial (subst IsSome (sym (put_here candidate_rank candidates candidate)) refl))
      by_test waits false test = inr (record {
        listed = row_at-without expiry_rank waiting (expiry_rank first) (expiry_place order.limit.expires r.serial.0)
            ∙ ap (λ (b : Bool). cond b None (row_at expiry_rank waiting (expiry_place order.limit.expires r.serial.0))) test ∙ waits.listed;
        later = waits.later;
        unused = waits.unused;
      })

  -- a later moment
  pub advanced : (now : ℕ) → moment ≤ now → NoneBefore now waiting → IsIndexed key rows now waiting candidates
  advanced now le none k r order found fits not_done offered in_time = elim (indexed k r order found fits not_done offered (omega (arith, le, in_time))) [
    | inl some ↦ inl some
    | inr waits ↦ inr (record { listed = waits.listed; later = from_place now order.limit.expires r.serial.0 fits (none _ (subst IsSome (sym waits.listed) refl)); unused = waits.unused })
  ]

  -- a candidate goes whose order will never be offered
  pub pruned : (place : ℕ) → IsOver key moment (row_at use_rank rows place) → IsIndexed key rows moment waiting (without candidate_rank candidates place)
  pruned place over k r order found fits not_done offered in_time = elim (indexed k r order found fits not_done offered in_time) [
    | inl some ↦ inl (some_left candidate_rank candidates place r.serial.0
        (λ same. over r order (ap (row_at use_rank rows) (same ∙ rank-found use_rank rows k r found) ∙ found) not_done offered in_time) some)
    | inr waits ↦ inr waits
  ]

  -- ---- what is due is a candidate

  pub due_listed : (k : ℕ) (r : OrderUse) → HasSerial r → row_at use_rank rows k ≡ Some r → is_due key moment r ≡ true → IsSome (row_at candidate_rank candidates k)
  unfolding is_due
  due_listed k r fits found due =
      let both = and_parts (not r.done) (is_order_due moment r.served (offer_of key r.order)) due in
      subst (λ (n : ℕ). IsSome (row_at candidate_rank candidates n)) (rank-found use_rank rows k r found) (by_order (offer_of key r.order) refl both.1 (not-true r.done both.0))
    where
      by_order : (o : Result Order OrderErr) → offer_of key r.order ≡ o → is_order_due moment r.served o ≡ true → r.done ≡ false → IsSome (row_at candidate_rank candidates r.serial.0)
      by_order (Ok order) offered is not_done =
          let parts = and_parts (r.served == order.limit.limit || nat_lt order.limit.expires moment) (nat_le moment (until_of order.limit.expires)) is in
          elim (indexed k r order found fits not_done offered (leb-true _ _ parts.1)) [
            | inl some ↦ some
            | inr waits ↦ absurd (elim (or_cases (r.served == order.limit.limit) (nat_lt order.limit.expires moment) parts.0) [
              | inl used ↦ waits.unused (eqb-true _ _ used)
              | inr passed ↦ let lt = ltb-true order.limit.expires moment passed in let later = waits.later in omega (arith, lt, later)
            ])
          ]
      by_order (Err err) offered is not_done = absurd cc

-- none of a list expires before what the first of it tells
pub none_before_first : (waiting : List Expiry) (first : Expiry) (now : ℕ) → IsRising expiry_rank waiting → slice_get waiting 0 ≡ Some first → now ≤ first.expires → NoneBefore now waiting
none_before_first waiting first now rising at le place some =
    place_from now first.expires first.serial place le (first_least expiry_rank waiting first place rising at some)

pub none_before_none : (waiting : List Expiry) (now : ℕ) → slice_get waiting 0 ≡ None → NoneBefore now waiting
none_before_none [] now none place some = absurd cc
none_before_none (x ∷ xs) now none place some = absurd cc

-- ---- a table

pub table_none : (key : List ℕ) (rows : List OrderUse) (moment : ℕ) (waiting : List Expiry) (candidates : List Candidate) → rows ≡ [] → IsTable key rows moment waiting candidates
table_none key rows moment waiting candidates is =
    subst (λ (l : List OrderUse). IsTable key l moment waiting candidates) (sym is) (record { indexed = λ k row order found fits not_done offered in_time. absurd cc; serials = tt })
