-- What is known of a row that a take puts.
use Rattle.std.proofs.Common.{◌≡◌, ℕ, ◌+◌, ◌≤◌, Bool, true, false, cond, not, ◌&&◌, List, [], ◌∷◌, length, Option, Some, None, Result, Ok, Err, IfOk, refl, sym, ap, subst, ◌∙◌, arith}
use Rattle.std.specs.Prelude.{◌==◌, nat_lt, max}
use Rattle.std.proofs.lemmas.Bool.{ltb-true, ltb-false}
use Rattle.rows.specs.Rows.{Each, row_at}
use Rattle.rows.proofs.Found.{rank-found}
use Rattle.sat_base.specs.Results.{◌>>=◌}
use Rattle.sat_base.specs.declared.ids.NodeId.{NodeId}
use Rattle.sat_base.specs.declared.ids.Serial.{Serial}
use Rattle.order_limits.specs.Order.{action_byte}
use Rattle.order_limits.specs.Read.{offer_of}
use Rattle.order_limits.specs.declared.limit.Order.{Order}
use Rattle.order_limits.specs.declared.read.OrderErr.{OrderErr}
use Rattle.order_limits.proofs.Fields.{IsBytes}
use Rattle.order_limits.proofs.Reading.{offer_fits}
use Rattle.order_uses.specs.Opening.{HasSerial}
use Rattle.order_uses.specs.Take.{amount_of, counted_beside, fits_action, greater_order, is_done, kept_amount, kept_served, take_case, taken_bytes, unfit}
use Rattle.order_uses.specs.Uses.{AreUses, IsUnderKey, use_at, use_rank}
use Rattle.order_uses.specs.declared.row.OrderUse.{OrderUse}
use Rattle.order_uses.specs.declared.take.TakeErr.{TakeErr}
use Rattle.order_uses.specs.declared.take.TakeErr.TheVariants as errs
use Rattle.order_uses.specs.declared.take.Wanted.{Wanted}

-- ---- tests that were passed, one after the other

bind_ok : {A B : Type 0} (r : Result A TakeErr) (f : A → Result B TakeErr) (y : B) → (r >>= f) ≡ Ok y → (x : A) × (r ≡ Ok x) × (f x ≡ Ok y)
bind_ok (Ok x) f y e = (x, refl, e)
bind_ok (Err d) f y e = absurd cc

passed : {A : Type 0} (b : Bool) (d : TakeErr) (r : Result A TakeErr) (y : A) → cond b (Err d) r ≡ Ok y → (b ≡ false) × (r ≡ Ok y)
passed true d r y e = absurd cc
passed false d r y e = (refl, e)

abbrev ok_of : {A : Type 0} → A → Result A TakeErr
ok_of x = Ok x

ok_is : {A : Type 0} (a b : A) → ok_of a ≡ ok_of b → a ≡ b
ok_is a b e = cc

taken_ok : (r : Result Order OrderErr) (order : Order) → taken_bytes r ≡ Ok order → r ≡ Ok order
taken_ok (Ok x) order e = ap (λ (o : Order). Ok o) (ok_is x order e)
taken_ok (Err d) order e = absurd cc

-- an order that fits what is wanted is within its limit
unfit_ok : (node : NodeId) (now : ℕ) (wanted : Wanted) (order fit : Order) → unfit node now wanted order ≡ Ok fit → (order ≡ fit) × (order.amount ≤ order.limit.limit)
unfolding unfit
unfit_ok node now wanted order fit e =
    let l = order.limit in
    let a = passed (not (l.node.0 == node.0)) (errs.OtherNode l.node) _ fit e in
    let b = passed (not (l.segment.0 == wanted.segment.0 && l.index == wanted.index)) errs.OtherPiece _ fit a.1 in
    let d = passed (not (fits_action wanted.put l.action)) (errs.WrongAction (action_byte l.action)) _ fit b.1 in
    let f = passed (nat_lt l.expires now) (errs.Expired l.expires) _ fit d.1 in
    let g = passed (nat_lt l.limit order.amount) (errs.OverLimit l.limit) (Ok order) fit f.1 in
    (ok_is _ _ g.1, ltb-false _ _ g.0)

abbrev row_made : List ℕ → Option OrderUse → Wanted → Order → OrderUse
row_made key kept wanted order = record {
  serial = order.limit.serial;
  order = greater_order key wanted.order order.amount kept;
  served = kept_served kept + wanted.len;
  done = false;
}

pub record IsCounted (key : List ℕ) (kept : Option OrderUse) (wanted : Wanted) (order : Order) (row : OrderUse) : Type 0 where
  pub not_done : is_done kept ≡ false
  pub enough : kept_served kept + wanted.len ≤ max (kept_amount key kept) order.amount
  pub is : row_made key kept wanted order ≡ row

counted_ok : (key : List ℕ) (cap count : ℕ) (kept : Option OrderUse) (wanted : Wanted) (order : Order) (row : OrderUse) → counted_beside key cap count kept wanted order ≡ Ok row
    → IsCounted key kept wanted order row
unfolding counted_beside
counted_ok key cap count kept wanted order row e =
    let a = passed _ _ _ row e in
    let b = passed _ _ _ row a.1 in
    let d = passed _ _ _ row b.1 in
    let f = passed _ _ _ row d.1 in
    record { not_done = b.0; enough = ltb-false _ _ d.0; is = ok_is _ _ f.1 }

-- what is known of a take that puts a row
pub record Puts (key : List ℕ) (rows : List OrderUse) (wanted : Wanted) (row : OrderUse) : Type 0 where
  pub order : Order
  pub offered : offer_of key wanted.order ≡ Ok order
  pub within : order.amount ≤ order.limit.limit
  pub counts : IsCounted key (use_at rows order.limit.serial) wanted order row

pub puts_of : (node : NodeId) (key : List ℕ) (cap : ℕ) (rows : List OrderUse) (now : ℕ) (wanted : Wanted) (row : OrderUse) → take_case node key cap rows now wanted ≡ Ok row → Puts key rows wanted row
unfolding take_case
puts_of node key cap rows now wanted row e =
    let a = bind_ok (taken_bytes (offer_of key wanted.order)) _ row e in
    let b = bind_ok (unfit node now wanted a.0) _ row a.2 in
    let fit = unfit_ok node now wanted a.0 b.0 b.1 in
    let counts : IsCounted key (use_at rows b.0.limit.serial) wanted b.0 row = counted_ok key cap (length rows) (use_at rows b.0.limit.serial) wanted b.0 row b.2 in
    record {
      order = a.0;
      offered = taken_ok _ _ a.1;
      within = fit.1;
      counts = subst (λ (o : Order). IsCounted key (use_at rows o.limit.serial) wanted o row) (sym fit.0) counts;
    }

-- ---- the row is under the key

same_serial : (a b : Serial) → a.0 ≡ b.0 → a ≡ b
same_serial a b e = ap (λ (n : ℕ). record { 0 = n }) e

pub each_found : (P : OrderUse → Type 0) (rows : List OrderUse) (k : ℕ) (row : OrderUse) → Each P rows → row_at use_rank rows k ≡ Some row → P row
each_found P [] k row each found = absurd cc
each_found P (first ∷ rest) k row each found = chosen (first.serial.0 == k) (each_found P rest k row each.1) found
  where
    chosen : (b : Bool) → (row_at use_rank rest k ≡ Some row → P row) → cond b (Some first) (row_at use_rank rest k) ≡ Some row → P row
    chosen true later is = let same : first ≡ row = cc in subst P same each.0
    chosen false later is = later is

amount_kept : (key : List ℕ) (row : OrderUse) (order : Order) → offer_of key row.order ≡ Ok order → kept_amount key (Some row) ≡ order.amount
amount_kept key row order offered = ap amount_of offered

under_beside : (key : List ℕ) (kept : Option OrderUse) (wanted : Wanted) (order : Order) → ((row : OrderUse) → kept ≡ Some row → IsUnderKey key row × (row.serial ≡ order.limit.serial))
    → offer_of key wanted.order ≡ Ok order → order.amount ≤ order.limit.limit → kept_served kept + wanted.len ≤ max (kept_amount key kept) order.amount → IsUnderKey key (row_made key kept wanted order)
under_beside key None wanted order known offered within enough = record { order = order; offered = offered; own = refl; served = omega (arith, enough); within = within }
under_beside key (Some kept) wanted order known offered within enough =
    let is = known kept refl in
    let under = is.0 in
    let amount = amount_kept key kept under.order under.offered in
    let most : kept.served + wanted.len ≤ max under.order.amount order.amount = subst (λ (n : ℕ). kept.served + wanted.len ≤ max n order.amount) amount enough in
    let test : nat_lt (kept_amount key (Some kept)) order.amount ≡ nat_lt under.order.amount order.amount = ap (λ (n : ℕ). nat_lt n order.amount) amount in
    let done : IsUnderKey key (record { serial = order.limit.serial; order = cond (nat_lt under.order.amount order.amount) wanted.order kept.order; served = kept.served + wanted.len; done = false })
    = chosen under is.1 most (nat_lt under.order.amount order.amount) refl in
    subst (λ (b : Bool). IsUnderKey key (record { serial = order.limit.serial; order = cond b wanted.order kept.order; served = kept.served + wanted.len; done = false })) (sym test) done
  where
    chosen : (under : IsUnderKey key kept) → kept.serial ≡ order.limit.serial → kept.served + wanted.len ≤ max under.order.amount order.amount → (b : Bool) → nat_lt under.order.amount order.amount ≡ b
        → IsUnderKey key (record { serial = order.limit.serial; order = cond b wanted.order kept.order; served = kept.served + wanted.len; done = false })
    chosen under own most true test = record { order = order; offered = offered; own = refl; served = let lt = ltb-true under.order.amount order.amount test in omega (arith, most, lt); within = within }
    chosen under own most false test = record {
      order = under.order;
      offered = under.offered;
      own = under.own ∙ own;
      served = let le = ltb-false under.order.amount order.amount test in omega (arith, most, le);
      within = under.within;
    }

-- what is put is under the key, as all rows are
pub put_under : (key : List ℕ) (rows : List OrderUse) (wanted : Wanted) (row : OrderUse) → Each (IsUnderKey key) rows → Puts key rows wanted row → IsUnderKey key row
put_under key rows wanted row each puts =
    let serial = puts.order.limit.serial in
    subst (IsUnderKey key) puts.counts.is (under_beside key (use_at rows serial) wanted puts.order
    (λ kept found. (each_found (IsUnderKey key) rows serial.0 kept each found, same_serial kept.serial serial (rank-found use_rank rows serial.0 kept found)))
    puts.offered puts.within puts.counts.enough)

pub put_serial : (key : List ℕ) (rows : List OrderUse) (wanted : Wanted) (row : OrderUse) → IsBytes wanted.order → Puts key rows wanted row → HasSerial row
put_serial key rows wanted row bytes puts = subst HasSerial puts.counts.is (offer_fits key wanted.order puts.order bytes puts.offered).limit_fits.serial

pub if_under : (node : NodeId) (key : List ℕ) (cap : ℕ) (rows : List OrderUse) (now : ℕ) (wanted : Wanted) (r : Result OrderUse TakeErr) → AreUses key rows → r ≡ take_case node key cap rows now wanted
    → IfOk r (IsUnderKey key)
if_under node key cap rows now wanted (Ok row) are is = put_under key rows wanted row are.each (puts_of node key cap rows now wanted row (sym is))
if_under node key cap rows now wanted (Err d) are is = tt

pub if_serial : (node : NodeId) (key : List ℕ) (cap : ℕ) (rows : List OrderUse) (now : ℕ) (wanted : Wanted) (r : Result OrderUse TakeErr) → IsBytes wanted.order → r ≡ take_case node key cap rows now wanted
    → IfOk r HasSerial
if_serial node key cap rows now wanted (Ok row) bytes is = put_serial key rows wanted row bytes (puts_of node key cap rows now wanted row (sym is))
if_serial node key cap rows now wanted (Err d) bytes is = tt

pub under_done : (key : List ℕ) (row : OrderUse) → IsUnderKey key row → IsUnderKey key (record row { done = true })
under_done key row under = record { order = under.order; offered = under.offered; own = under.own; served = under.served; within = under.within }
