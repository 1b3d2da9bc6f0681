-- What an offer does to the rows of the orders.
use Rattle.std.proofs.Common.{◌≡◌, ◌⊎◌, inl, inr, ℕ, ◌+◌, ◌≤◌, List, [], ◌∷◌, length, Option, Some, None, Result, refl, sym, ap, subst, ◌∙◌, arith}
use Rattle.std.specs.Prelude.{Contains, true}
use Rattle.std.proofs.lemmas.Bool.Decides.{nat_tests}
use Rattle.sat_base.specs.Keeper.{KeeperView}
use Rattle.sat_base.specs.Outside.{with_end}
use Rattle.sat_base.specs.declared.ids.Serial.{Serial}
use Rattle.sat_base.specs.declared.keeper.Committed.{Committed}
use Rattle.sat_base.specs.declared.keeper.Committed.TheVariants as committed
use Rattle.sat_base.proofs.Told.{with_end-none}
use Rattle.order_uses.specs.Calls.{IsSettled, finish_call, rows_finished, served_of}
use Rattle.order_uses.specs.Uses.{use_at}
use Rattle.order_uses.specs.View.{Finishes, UsesView, Writes}
use Rattle.order_uses.specs.declared.opening.UsesErr.{UsesErr}
use Rattle.order_uses.specs.declared.row.OrderUse.{OrderUse}
use Rattle.order_uses.proofs.CallLemmas.{served_all, settled_all}
use Rattle.stor_base.specs.Offers.{offers_made}
use Rattle.stor_base.specs.declared.settler.OfferMade.{OfferMade}
use Rattle.stor_base.specs.declared.settler.Offered.{Offered}
use Rattle.stor_base.specs.declared.settler.Offered.TheVariants as offered
use Rattle.stor_serve.specs.Offering.{OffersIf, Settles, serial_in}
use Rattle.stor_serve.specs.Totals.{WasSettled}
use Rattle.stor_serve.specs.Views.{SettlerView}
use Rattle.stor_serve.proofs.RowLemmas.{settled_put}

-- the offer of an order that was settled by it
abbrev done_offer : List ℕ → OfferMade
done_offer order = record { order = order; answer = offered.Done }

-- the rows with one finished, whose order was offered and answered by Done; or as they were
pub data OfferRows (old new : List OrderUse) (made : List OfferMade) : Type 0 where
  finished : (order : List ℕ) (row : OrderUse) → use_at old (serial_in order) ≡ Some row → new ≡ rows_finished (Some row) old → made ≡ done_offer order ∷ [] → OfferRows old new made
  left : new ≡ old → OfferRows old new made

one_offer : (order : List ℕ) (answer : Offered) → length (offers_made order answer) ≤ 1
one_offer order offered.Done = omega arith
one_offer order offered.Later = omega arith
one_offer order offered.Failed = omega arith
one_offer order offered.NoMemory = omega arith

-- ---- what it changes

module _ {K : Type 0} (about : K → KeeperView) where
  by_commit : (uses uses' : UsesView K) (order : List ℕ) (row : OrderUse) (answer : Committed) → use_at uses.rows (serial_in order) ≡ Some row → Writes about (record row { done = true }) answer uses uses'
      → OfferRows uses.rows uses'.rows (done_offer order ∷ [])
  by_commit uses uses' order row committed.Done found writes = finished order row found (ap (λ (u : UsesView K). u.rows) writes.same) refl
  by_commit uses uses' order row committed.Fault found writes = left (ap (λ (u : UsesView K). u.rows) writes.same)
  by_commit uses uses' order row committed.NoMemory found writes = left (ap (λ (u : UsesView K). u.rows) writes.same)

  by_finish : (uses uses' : UsesView K) (order : List ℕ) (kept : Option OrderUse) (result : Result (Unit {0}) UsesErr) → use_at uses.rows (serial_in order) ≡ kept → Finishes about kept uses result uses'
      → OfferRows uses.rows uses'.rows (done_offer order ∷ [])
  by_finish uses uses' order (Some row) result found finishes = by_commit uses uses' order row finishes.0 found finishes.1
  by_finish uses uses' order None result found finishes = absurd finishes

  settles_rows : (answer : Offered) (order : List ℕ) (uses uses' : UsesView K) → Settles about answer order uses uses' → OfferRows uses.rows uses'.rows (offers_made order answer)
  settles_rows offered.Done order uses uses' settles = by_finish uses uses' order (use_at uses.rows (serial_in order)) settles.0 refl settles.1
  settles_rows offered.Later order uses uses' settles = left (ap (λ (u : UsesView K). u.rows) settles)
  settles_rows offered.Failed order uses uses' settles = left (ap (λ (u : UsesView K). u.rows) settles)
  settles_rows offered.NoMemory order uses uses' settles = left (ap (λ (u : UsesView K). u.rows) settles)

  -- the offers that are told then, and the rows
  abbrev pub OfferDoes : UsesView K → UsesView K → SettlerView → SettlerView → Type 0
  OfferDoes uses uses' settler settler' = (made : List OfferMade) × (settler'.offers ≡ with_end settler.offers made) × OfferRows uses.rows uses'.rows made × (length made ≤ 1)

  pub offer_does : (due : Option (List ℕ)) (uses uses' : UsesView K) (settler settler' : SettlerView) → OffersIf about due uses uses' settler settler' → OfferDoes uses uses' settler settler'
  offer_does None uses uses' settler settler' offers =
      ([], ap (λ (s : SettlerView). s.offers) offers.1 ∙ sym (with_end-none settler.offers), left (ap (λ (u : UsesView K). u.rows) offers.0), omega arith)
  offer_does (Some order) uses uses' settler settler' offers =
      (offers_made order offers.0, offers.1.told, settles_rows offers.0 order uses uses' offers.2, one_offer order offers.0)

-- ---- what is told of it

-- a row that is found is of the serial
row_named : (rows : List OrderUse) (serial : Serial) (row : OrderUse) → use_at rows serial ≡ Some row → row.serial.0 ≡ serial.0
row_named [] serial row found = absurd cc
row_named (first ∷ rest) serial row found = grind (arith, nat_tests, found, row_named rest serial row)

-- what `served_all` and `settled_all` say of one finish
rows_then : (rows : List OrderUse) (order : List ℕ) (row : OrderUse) (P : List OrderUse → Type 0) → use_at rows (serial_in order) ≡ Some row
    → P (rows_finished (use_at rows (serial_in order)) rows) → P (rows_finished (Some row) rows)
rows_then rows order row P found holds = subst (λ (kept : Option OrderUse). P (rows_finished kept rows)) found holds

-- an offer serves nothing
pub offer_counts : {K : Type 0} (uses : UsesView K) (rows : List OrderUse) (made : List OfferMade) → OfferRows uses.rows rows made → (serial : Serial) → served_of rows serial ≡ served_of uses.rows serial
offer_counts uses rows made (finished order row found goes is) serial =
    let after = served_all uses.node uses.key uses.cap uses.rows serial (finish_call (serial_in order) true ∷ []) in
    ap (λ (l : List OrderUse). served_of l serial) goes ∙ rows_then uses.rows order row (λ l. served_of l serial ≡ served_of uses.rows serial + 0) found after ∙ omega arith
offer_counts uses rows made (left stays) serial = ap (λ (l : List OrderUse). served_of l serial) stays

-- what is settled then was so before, or the offer was of its order and was answered by Done
pub offer_settles : (old new : List OrderUse) (made : List OfferMade) → OfferRows old new made → (serial : Serial) → IsSettled new serial → IsSettled old serial ⊎ WasSettled serial made
offer_settles old new made (finished order row found goes is) serial settled =
    elim (settled_put old (record row { done = true }) serial (subst (λ (l : List OrderUse). IsSettled l serial) goes settled)) [
      | inl before ↦ inl before
      | inr done ↦
          let named : (serial_in order).0 ≡ serial.0 = sym (row_named old (serial_in order) row found) ∙ done.0 in
          inr (done_offer order, subst (λ (l : List OfferMade). Contains l (done_offer order)) (sym is) (0, omega arith, refl), (ap (λ (n : ℕ). record { 0 = n }) named, refl))
    ]
offer_settles old new made (left stays) serial settled = inl (subst (λ (l : List OrderUse). IsSettled l serial) stays settled)

-- and what was stays so
pub offer_stays : {K : Type 0} (uses : UsesView K) (rows : List OrderUse) (made : List OfferMade) → OfferRows uses.rows rows made → (serial : Serial) → IsSettled uses.rows serial → IsSettled rows serial
offer_stays uses rows made (finished order row found goes is) serial settled =
    let after = settled_all uses.node uses.key uses.cap uses.rows serial (finish_call (serial_in order) true ∷ []) settled in
    subst (λ (l : List OrderUse). IsSettled l serial) (sym goes) (rows_then uses.rows order row (λ l. IsSettled l serial) found after)
offer_stays uses rows made (left stays) serial settled = subst (λ (l : List OrderUse). IsSettled l serial) (sym stays) settled
