-- A row that is named as new is that of a good order, and has no row of its key beside it.
use Rattle.std.proofs.Common.{◌≡◌, ℕ, ◌≤◌, List, Option, Some, None, Result, Ok, Err, cond, Bool, true, false, refl, sym}
use Rattle.std.proofs.lemmas.Bool.{ltb-false, eqb-true}
use Rattle.sat_base.specs.declared.ids.NodeId.{NodeId}
use Rattle.order_limits.specs.declared.limit.Order.{Order}
use Rattle.order_limits.specs.Order.{IsGoodOrder}
use Rattle.settlement.specs.declared.row.SettledRow.{SettledRow}
use Rattle.settlement.specs.declared.answer.Settlable.{Settlable}
use Rattle.settlement.specs.declared.answer.Settlable.TheVariants as may
use Rattle.settlement.specs.declared.answer.SettleErr.{SettleErr}
use Rattle.settlement.specs.declared.answer.SettleErr.TheVariants as no
use Rattle.settlement.specs.Place.{place}
use Rattle.settlement.specs.Rows.{key, row_of}
use Rattle.settlement.specs.Settle.{row_for, until_of, fresh, beside, order_settlable, IfNew, IsRowOf}

abbrev pub named : SettledRow → Result Settlable SettleErr
named row = Ok (may.New row)

row_is : (a b : SettledRow) → named a ≡ named b → a ≡ b
row_is a b e = cc

test_ok : (b : Bool) (r : Result Settlable SettleErr) (e : SettleErr) (row : SettledRow) → cond b r (Err e) ≡ named row → (b ≡ true) × (r ≡ named row)
test_ok true r e row h = (refl, h)
test_ok false r e row h = absurd cc

test_not : (b : Bool) (r : Result Settlable SettleErr) (e : SettleErr) (row : SettledRow) → cond b (Err e) r ≡ named row → (b ≡ false) × (r ≡ named row)
test_not true r e row h = absurd cc
test_not false r e row h = (refl, h)

not_again : (b : Bool) (a k : ℕ) (row : SettledRow) → cond b (Ok (may.Again a)) (Err (no.Differs k)) ≡ named row → ⊥
not_again true a k row h = cc
not_again false a k row h = cc

-- what a new row tells of its order
pub record Made (rows : List SettledRow) (node : NodeId) (now : ℕ) (o : Order) (row : SettledRow) : Type 0 where
  pub own : o.limit.node.0 ≡ node.0
  pub in_time : now ≤ until_of o
  pub within : o.amount ≤ o.limit.limit
  pub is : row ≡ row_for o now
  pub absent : row_of rows (key row) ≡ None

fresh_new : (rows : List SettledRow) (cap : ℕ) (o : Order) (now : ℕ) (row : SettledRow) → fresh rows cap o now ≡ named row → (now ≤ until_of o) × (o.amount ≤ o.limit.limit) × (row_for o now ≡ row)
unfolding fresh
fresh_new rows cap o now row e =
    let a = test_not _ _ (no.Late (until_of o)) row e in
    let b = test_not _ _ (no.OverLimit o.limit.limit) row a.1 in
    let d = test_not _ _ (no.SettledFull cap) row b.1 in
    (ltb-false _ _ a.0, ltb-false _ _ b.0, row_is _ _ d.1)

beside_new : (x : Option SettledRow) (rows : List SettledRow) (cap : ℕ) (o : Order) (now : ℕ) (row : SettledRow) → beside x rows cap o now ≡ named row → (x ≡ None) × (fresh rows cap o now ≡ named row)
unfolding beside
beside_new None rows cap o now row e = (refl, e)
beside_new (Some r) rows cap o now row e = absurd (not_again _ _ _ row e)

pub order_new : (rows : List SettledRow) (cap : ℕ) (node : NodeId) (now : ℕ) (o : Order) (row : SettledRow) → order_settlable rows cap node now o ≡ named row → Made rows node now o row
unfolding order_settlable
order_new rows cap node now o row e =
    let a = test_ok _ _ (no.OtherNode o.limit.node) row e in
    let b = beside_new (row_of rows (place o.limit.serial o.limit.node)) rows cap o now row a.1 in
    let d = fresh_new rows cap o now row b.1 in
    record { own = eqb-true _ _ a.0; in_time = d.0; within = d.1; is = sym d.2; absent = rw (← d.2) b.0 }

pub if_absent : (rows : List SettledRow) (cap : ℕ) (node : NodeId) (now : ℕ) (o : Order) (r : Result Settlable SettleErr) → r ≡ order_settlable rows cap node now o → IfNew r (λ row. row_of rows (key row) ≡ None)
if_absent rows cap node now o (Ok (may.New row)) e = (order_new rows cap node now o row (sym e)).absent
if_absent rows cap node now o (Ok (may.Again a)) e = tt
if_absent rows cap node now o (Err d) e = tt

pub if_good : (secret bytes : List ℕ) (rows : List SettledRow) (cap : ℕ) (node : NodeId) (now : ℕ) (o : Order) (r : Result Settlable SettleErr) → IsGoodOrder secret bytes o → r ≡ order_settlable rows cap node now o → IfNew r (IsRowOf secret node now bytes)
if_good secret bytes rows cap node now o (Ok (may.New row)) good e =
    let made = order_new rows cap node now o row (sym e) in
    record { order = o; good = good; own = made.own; in_time = made.in_time; within = made.within; made = made.is }
if_good secret bytes rows cap node now o (Ok (may.Again a)) good e = tt
if_good secret bytes rows cap node now o (Err d) good e = tt
