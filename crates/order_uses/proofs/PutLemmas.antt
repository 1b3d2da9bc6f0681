-- The rows with one more, in place of the one of its serial if there is one.
use Rattle.std.proofs.Common.{◌≡◌, ℕ, ◌≤◌, Bool, true, false, cond, List, [], ◌∷◌, None, refl, sym, ap, ◌∙◌, arith}
use Rattle.std.specs.Prelude.{nat_lt, ◌==◌}
use Rattle.std.specs.declared.cmp.Ordering.TheVariants.{Less, Equal, Greater}
use Rattle.std.specs.FinMap.{entries-from_sorted, entries-insert, same_entries_map}
use Rattle.std.specs.FinMap.Entries.{by_order, put}
use Rattle.std.proofs.lemmas.Bool.{eqb-true, eq-eqb}
use Rattle.std.proofs.lemmas.Bool.Decides.{nat_tests}
use Rattle.rows.specs.Rows.{Each, IsRising, row_at, added, without}
use Rattle.rows.specs.Slots.{with_row}
use Rattle.rows.proofs.Found.{row_at-without}
use Rattle.rows.proofs.Lengths.{without_above}
use Rattle.rows.proofs.OrderLemmas.{added_front}
use Rattle.rows.proofs.Rising.{above_less, rising-with_row}
use Rattle.sat_base.proofs.KeyOrder.{keys_total}
use Rattle.sat_base.specs.Rows.{Key, changed, entry, key_cmp, key_of}
use Rattle.order_uses.specs.Opening.{HasSerial}
use Rattle.order_uses.specs.Rows.{row_of_use}
use Rattle.order_uses.specs.Uses.{AreUses, IsUnderKey, use_rank}
use Rattle.order_uses.specs.View.{putting, store_of}
use Rattle.order_uses.specs.declared.row.OrderUse.{OrderUse}
use Rattle.order_uses.proofs.KeyLemmas.{keys_cmp, order_of_rising, the_entries, use_key}

-- ---- a row is taken out, and put again

module _ {R : Type 0} (rank : R → ℕ) where
  pub put_absent : (row : R) (rows : List R) → row_at rank (without rank rows (rank row)) (rank row) ≡ None
  put_absent row rows = row_at-without rank rows (rank row) (rank row) ∙ ap (λ (b : Bool). cond b None (row_at rank rows (rank row))) (eq-eqb (rank row) (rank row) refl)

  pub put_again : (row : R) (rows : List R) → IsRising rank rows → added rank row (without rank rows (rank row)) ≡ with_row rank rows row
  put_again row [] rising = refl
  put_again row (first ∷ rest) rising =
      let same : rank row ≤ rank first → without rank rest (rank row) ≡ rest = λ le. without_above rank rest (rank first) (rank row) rising.0 le in
      let front : rank row ≤ rank first → added rank row rest ≡ row ∷ rest = λ le. added_front rank row rest (above_less rank (rank first) (rank row) rest le rising.0) in
      grind (arith, nat_tests, same, front, put_again row rest rising.1)

-- ---- what holds of each row

pub each_put : (P : OrderUse → Type 0) (rows : List OrderUse) (row : OrderUse) → Each P rows → P row → Each P (with_row use_rank rows row)
each_put P [] row each own = (own, tt)
each_put P (first ∷ rest) row each own = chosen (nat_lt row.serial.0 first.serial.0) (row.serial.0 == first.serial.0) (each_put P rest row each.1 own)
  where
    chosen : (a b : Bool) → Each P (with_row use_rank rest row) → Each P (cond a (row ∷ first ∷ rest) (cond b (row ∷ rest) (first ∷ with_row use_rank rest row)))
    chosen true b more = (own, each)
    chosen false true more = (own, each.1)
    chosen false false more = (each.0, more)

pub uses_put : (key : List ℕ) (rows : List OrderUse) (row : OrderUse) → AreUses key rows → IsUnderKey key row → AreUses key (with_row use_rank rows row)
uses_put key rows row are under = record { rising = rising-with_row use_rank rows row are.rising; each = each_put (IsUnderKey key) rows row are.each under }

-- ---- the rows of a store

by_tests : {A : Type 0} (a b : Bool) (x y z : A) → by_order (cond a Less (cond b Equal Greater)) x y z ≡ cond a x (cond b y z)
by_tests true b x y z = refl
by_tests false true x y z = refl
by_tests false false x y z = refl

entries_by : (a b : Bool) (x y z : List OrderUse) → the_entries (cond a x (cond b y z)) ≡ cond a (the_entries x) (cond b (the_entries y) (the_entries z))
entries_by true b x y z = refl
entries_by false true x y z = refl
entries_by false false x y z = refl

-- two choices that differ only where they are the same
same_choice : {A : Type 0} (a b : Bool) (x y y' z z' : A) → (b ≡ true → y ≡ y') → z ≡ z' → cond a x (cond b y z) ≡ cond a x (cond b y' z')
same_choice true b x y y' z z' e f = refl
same_choice false true x y y' z z' e f = e refl
same_choice false false x y y' z z' e f = f

same_key : (a b : OrderUse) → a.serial.0 ≡ b.serial.0 → use_key a ≡ use_key b
same_key a b e = ap (λ (n : ℕ). key_of (row_of_use (record a { serial = record { 0 = n } }))) e

entries_put : (uses : List OrderUse) (row : OrderUse) → Each HasSerial uses → HasSerial row
    → the_entries (with_row use_rank uses row) ≡ put key_cmp (use_key row) (row_of_use row).body (the_entries uses)
entries_put [] row each fits = refl
entries_put (first ∷ rest) row each fits =
    let k = use_key row in
    let v = (row_of_use row).body in
    let more = entries_put rest row each.1 fits in
    entries_by (nat_lt row.serial.0 first.serial.0) (row.serial.0 == first.serial.0) (row ∷ first ∷ rest) (row ∷ rest) (first ∷ with_row use_rank rest row)
    ∙ same_choice (nat_lt row.serial.0 first.serial.0) (row.serial.0 == first.serial.0) (the_entries (row ∷ first ∷ rest))
    (the_entries (row ∷ rest)) ((use_key first, v) ∷ the_entries rest)
    (the_entries (first ∷ with_row use_rank rest row)) (entry (row_of_use first) ∷ put key_cmp k v (the_entries rest))
    (λ same. ap (λ (q : Key). (q, v) ∷ the_entries rest) (same_key row first (eqb-true _ _ same)))
    (ap (λ (es : List (Key × List ℕ)). entry (row_of_use first) ∷ es) more)
    ∙ sym (by_tests (nat_lt row.serial.0 first.serial.0) (row.serial.0 == first.serial.0) (the_entries (row ∷ first ∷ rest))
    ((use_key first, v) ∷ the_entries rest) (entry (row_of_use first) ∷ put key_cmp k v (the_entries rest)))
    ∙ ap (λ o. by_order o (the_entries (row ∷ first ∷ rest)) ((use_key first, v) ∷ the_entries rest) (entry (row_of_use first) ∷ put key_cmp k v (the_entries rest)))
    (sym (keys_cmp row first fits each.0))

-- the rows of a store of these uses, with the row of one put, are those of the uses with it
pub store_put : (uses : List OrderUse) (row : OrderUse) → IsRising use_rank uses → Each HasSerial uses → HasSerial row → store_of (with_row use_rank uses row) ≡ changed (putting row) (store_of uses)
store_put uses row rising each fits =
    let order = order_of_rising uses each rising in
    let new = with_row use_rank uses row in
    let order' = order_of_rising new (each_put HasSerial uses row each fits) (rising-with_row use_rank uses row rising) in
    let k = use_key row in
    let v = (row_of_use row).body in
    same_entries_map _ _ (entries-from_sorted key_cmp (the_entries new) order' ∙ entries_put uses row each fits
    ∙ sym (entries-insert keys_total (store_of uses) k v ∙ ap (put key_cmp k v) (entries-from_sorted key_cmp (the_entries uses) order)))
