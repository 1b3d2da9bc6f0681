-- What a link does to the rows of the orders.
use Rattle.std.proofs.Common.{◌≡◌, ◌⊎◌, inl, inr, ℕ, ◌+◌, Bool, true, false, cond, List, [], ◌∷◌, Option, Some, Result, Ok, Err, is_ok, refl, sym, ap, subst, ◌∙◌, arith}
use Rattle.std.specs.Prelude.{◌==◌}
use Rattle.std.proofs.lemmas.Bool.Decides.{nat_tests}
use Rattle.sat_base.specs.Keeper.{KeeperView}
use Rattle.sat_base.specs.Outside.{About}
use Rattle.sat_base.specs.declared.ids.Serial.{Serial}
use Rattle.sat_base.specs.declared.keeper.Committed.{Committed}
use Rattle.sat_base.specs.declared.keeper.Committed.TheVariants as committed
use Rattle.order_uses.specs.Calls.{IsSettled, len_taken, rows_taken, served_of, take_call}
use Rattle.order_uses.specs.Take.{take_case}
use Rattle.order_uses.specs.View.{Takes, UsesView, Writes, said_of_take}
use Rattle.order_uses.specs.declared.row.OrderUse.{OrderUse}
use Rattle.order_uses.specs.declared.take.TakeErr.{TakeErr}
use Rattle.order_uses.specs.declared.take.Wanted.{Wanted}
use Rattle.order_uses.proofs.CallLemmas.{served_all, settled_all}
use Rattle.order_uses.proofs.TakeLemmas.{puts_of}
use Rattle.stor_wire.specs.declared.request.ReadErr.{ReadErr}
use Rattle.stor_wire.specs.declared.request.Request.{Request}
use Rattle.stor_serve.specs.Links.{Does}
use Rattle.stor_serve.specs.Offering.{serial_in}
use Rattle.stor_serve.specs.Performing.{wanted_of}
use Rattle.stor_serve.specs.Totals.{asked_under, counted_under}
use Rattle.stor_serve.specs.Views.{NodeView}
use Rattle.stor_serve.specs.declared.served.Served.{Served}
use Rattle.stor_serve.proofs.DueLemmas.{offer_serial}

-- ---- a row that is put

-- what is settled with a row put was so before, or is that row's, which is done
pub settled_put : (rows : List OrderUse) (row : OrderUse) (serial : Serial) → IsSettled (rows_taken (Ok row) rows) serial → IsSettled rows serial ⊎ ((row.serial.0 ≡ serial.0) × (row.done ≡ true))
settled_put [] row serial settled = grind (arith, nat_tests, settled)
settled_put (first ∷ rest) row serial settled = grind (arith, nat_tests, settled, settled_put rest row serial)

-- ---- a link

-- the rows with that of a take that was accepted, or as they were
pub data LinkRows {K : Type 0} (uses : UsesView K) (served : Served) (rows : List OrderUse) : Type 0 where
  took : (now : ℕ) (wanted : Wanted) (row : OrderUse) → served.taken ≡ true → served.wanted ≡ Some wanted → take_case uses.node uses.key uses.cap uses.rows now wanted ≡ Ok row → rows ≡ rows_taken (Ok row) uses.rows → LinkRows uses served rows
  took_none : served.taken ≡ false → rows ≡ uses.rows → LinkRows uses served rows

module _ {K : Type 0} (about : K → KeeperView) where
  by_answer : (uses uses' : UsesView K) (served : Served) (now : ℕ) (wanted : Wanted) (row : OrderUse) (result : Result (Unit {0}) TakeErr) (answer : Committed)
      → take_case uses.node uses.key uses.cap uses.rows now wanted ≡ Ok row → Writes about row answer uses uses' → result ≡ said_of_take about answer uses.keeper uses'.keeper
      → served.taken ≡ is_ok result → served.wanted ≡ Some wanted → LinkRows uses served uses'.rows
  by_answer uses uses' served now wanted row result committed.Done is writes said taken asked =
      took now wanted row (taken ∙ ap (λ (r : Result (Unit {0}) TakeErr). is_ok r) said) asked is (ap (λ (u : UsesView K). u.rows) writes.same)
  by_answer uses uses' served now wanted row result committed.Fault is writes said taken asked =
      took_none (taken ∙ ap (λ (r : Result (Unit {0}) TakeErr). is_ok r) said) (ap (λ (u : UsesView K). u.rows) writes.same)
  by_answer uses uses' served now wanted row result committed.NoMemory is writes said taken asked =
      took_none (taken ∙ ap (λ (r : Result (Unit {0}) TakeErr). is_ok r) said) (ap (λ (u : UsesView K). u.rows) writes.same)

  by_take : (uses uses' : UsesView K) (served : Served) (now : ℕ) (wanted : Wanted) (result : Result (Unit {0}) TakeErr) (r : Result OrderUse TakeErr)
      → take_case uses.node uses.key uses.cap uses.rows now wanted ≡ r → Takes about r uses result uses'
      → served.taken ≡ is_ok result → served.wanted ≡ Some wanted → LinkRows uses served uses'.rows
  by_take uses uses' served now wanted result (Ok row) is takes taken asked = by_answer uses uses' served now wanted row result takes.0 is takes.1 takes.2 taken asked
  by_take uses uses' served now wanted result (Err err) is takes taken asked =
      took_none (taken ∙ ap (λ (r : Result (Unit {0}) TakeErr). is_ok r) takes.0) (ap (λ (u : UsesView K). u.rows) takes.1)

  pub link_rows : (read : Result Request ReadErr) (old new : NodeView K) (link link' : About) (served : Served) → Does about read old new link link' served → LinkRows old.uses served new.uses.rows
  link_rows (Ok request) old new link link' served does =
      by_take old.uses new.uses served served.now (wanted_of request) does.took
      (take_case old.uses.node old.uses.key old.uses.cap old.uses.rows served.now (wanted_of request)) refl does.takes does.taken_is does.wanted_is
  link_rows (Err why) old new link link' served does = took_none does.taken_is (ap (λ (u : UsesView K). u.rows) does.uses_are)

-- a row that is put is of the serial that the order's bytes name, and isn't done
taken_row : {K : Type 0} (uses : UsesView K) (now : ℕ) (wanted : Wanted) (row : OrderUse) → take_case uses.node uses.key uses.cap uses.rows now wanted ≡ Ok row → (row.serial ≡ serial_in wanted.order) × (row.done ≡ false)
taken_row uses now wanted row is =
    let puts = puts_of uses.node uses.key uses.cap uses.rows now wanted row is in
    (ap (λ (r : OrderUse). r.serial) (sym puts.counts.is) ∙ offer_serial uses.key wanted.order puts.order puts.offered, ap (λ (r : OrderUse). r.done) (sym puts.counts.is))

counted_is : (serial : Serial) (served : Served) (taken : Bool) (asked : Option Wanted) → served.taken ≡ taken → served.wanted ≡ asked → counted_under serial served ≡ cond taken (asked_under serial asked) 0
counted_is serial served taken asked p q = λ i. cond (p i) (asked_under serial (q i)) 0

none_counted : (serial : Serial) (served : Served) → served.taken ≡ false → counted_under serial served ≡ 0
none_counted serial served p = ap (λ (taken : Bool). cond taken (asked_under serial served.wanted) 0) p

pub link_counts : {K : Type 0} (uses : UsesView K) (served : Served) (rows : List OrderUse) → LinkRows uses served rows → (serial : Serial) → served_of rows serial ≡ served_of uses.rows serial + counted_under serial served
link_counts uses served rows (took now wanted row taken asked is goes) serial =
    let after = served_all uses.node uses.key uses.cap uses.rows serial (take_call now wanted true ∷ []) in
    let there = subst (λ (r : Result OrderUse TakeErr). served_of (rows_taken r uses.rows) serial ≡ served_of uses.rows serial + (len_taken r wanted.len serial + 0)) is after in
    let named : len_taken (Ok row) wanted.len serial ≡ asked_under serial (Some wanted) = ap (λ (s : Serial). cond (s.0 == serial.0) wanted.len 0) (taken_row uses now wanted row is).0 in
    let len = named ∙ sym (counted_is serial served true (Some wanted) taken asked) in
    ap (λ (l : List OrderUse). served_of l serial) goes ∙ there ∙ ap (λ (n : ℕ). served_of uses.rows serial + n) (ap (λ (n : ℕ). n + 0) len ∙ omega arith)
link_counts uses served rows (took_none taken stays) serial =
    let none = none_counted serial served taken in
    ap (λ (l : List OrderUse). served_of l serial) stays ∙ omega (arith, none)

-- no link settles an order
pub link_settles_none : {K : Type 0} (uses : UsesView K) (served : Served) (rows : List OrderUse) → LinkRows uses served rows → (serial : Serial) → IsSettled rows serial → IsSettled uses.rows serial
link_settles_none uses served rows (took now wanted row taken asked is goes) serial settled =
    elim (settled_put uses.rows row serial (subst (λ (l : List OrderUse). IsSettled l serial) goes settled)) [
      | inl before ↦ before
      | inr done ↦ absurd (no_both row.done done.1 (taken_row uses now wanted row is).1)
    ]
  where
    no_both : (b : Bool) → b ≡ true → b ≡ false → ⊥
    no_both b p q = cc
link_settles_none uses served rows (took_none taken stays) serial settled = subst (λ (l : List OrderUse). IsSettled l serial) stays settled

-- and none undoes that
pub link_stays : {K : Type 0} (uses : UsesView K) (served : Served) (rows : List OrderUse) → LinkRows uses served rows → (serial : Serial) → IsSettled uses.rows serial → IsSettled rows serial
link_stays uses served rows (took now wanted row taken asked is goes) serial settled =
    let after = settled_all uses.node uses.key uses.cap uses.rows serial (take_call now wanted true ∷ []) settled in
    subst (λ (l : List OrderUse). IsSettled l serial) (sym goes) (subst (λ (r : Result OrderUse TakeErr). IsSettled (rows_taken r uses.rows) serial) is after)
link_stays uses served rows (took_none taken stays) serial settled = subst (λ (l : List OrderUse). IsSettled l serial) (sym stays) settled
