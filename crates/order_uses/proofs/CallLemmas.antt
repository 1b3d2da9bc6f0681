-- What holds over every list of calls.
use Rattle.std.proofs.Common.{◌≡◌, ℕ, suc, ◌+◌, Bool, true, false, cond, not, List, [], ◌∷◌, Option, Some, None, Result, Ok, Err, refl, sym, ap, ◌∙◌, arith, add_assoc}
use Rattle.std.specs.Prelude.{◌==◌, filter, slice_get}
use Rattle.std.proofs.lemmas.Bool.{and_parts, eqb-true, not-true}
use Rattle.std.proofs.lemmas.Option.{same_Some}
use Rattle.rows.specs.Rows.{IsRising, row_at}
use Rattle.rows.proofs.Found.{rank-found, row_at-with_row, row_got}
use Rattle.sat_base.specs.declared.ids.NodeId.{NodeId}
use Rattle.sat_base.specs.declared.ids.Serial.{Serial}
use Rattle.order_limits.specs.Read.{offer_of}
use Rattle.order_uses.specs.Calls.{Call, take_call, finish_call, IsSettled, accepted, after, after_all, len_of, len_taken, rows_finished, rows_taken, served_of}
use Rattle.order_uses.specs.Due.{due_of, first_order, is_due, is_order_due}
use Rattle.order_uses.specs.Take.{is_done, kept_served, take_case}
use Rattle.order_uses.specs.Uses.{AreUses, IsUnderKey, use_at, use_rank}
use Rattle.order_uses.specs.declared.row.OrderUse.{OrderUse}
use Rattle.order_uses.specs.declared.take.TakeErr.{TakeErr}
use Rattle.order_uses.specs.declared.take.Wanted.{Wanted}
use Rattle.order_uses.proofs.PutLemmas.{uses_put}
use Rattle.order_uses.proofs.TakeLemmas.{each_found, put_under, puts_of, under_done}

none_more : (n : ℕ) → n ≡ n + 0
none_more n = omega arith

-- ---- one call

served_taken : (node : NodeId) (key : List ℕ) (cap : ℕ) (rows : List OrderUse) (now : ℕ) (wanted : Wanted) (serial : Serial) (r : Result OrderUse TakeErr) → take_case node key cap rows now wanted ≡ r
    → served_of (rows_taken r rows) serial ≡ served_of rows serial + len_taken r wanted.len serial
served_taken node key cap rows now wanted serial (Err d) is = none_more (served_of rows serial)
served_taken node key cap rows now wanted serial (Ok row) is =
    ap kept_served (row_at-with_row use_rank rows row serial.0) ∙ by_test (row.serial.0 == serial.0) refl
  where
    by_test : (b : Bool) → (row.serial.0 == serial.0) ≡ b → kept_served (cond b (Some row) (use_at rows serial)) ≡ served_of rows serial + cond b wanted.len 0
    by_test true test =
        let puts = puts_of node key cap rows now wanted row is in
        let own : puts.order.limit.serial.0 ≡ row.serial.0 = ap (λ (r : OrderUse). r.serial.0) puts.counts.is in
        let sum : served_of rows puts.order.limit.serial + wanted.len ≡ row.served = ap (λ (r : OrderUse). r.served) puts.counts.is in
        sym sum ∙ ap (λ (n : ℕ). kept_served (row_at use_rank rows n) + wanted.len) (own ∙ eqb-true _ _ test)
    by_test false test = none_more (served_of rows serial)

served_finished : (rows : List OrderUse) (serial other : Serial) (o : Option OrderUse) → use_at rows other ≡ o → served_of (rows_finished o rows) serial ≡ served_of rows serial
served_finished rows serial other None is = refl
served_finished rows serial other (Some row) is =
    ap kept_served (row_at-with_row use_rank rows (record row { done = true }) serial.0) ∙ by_test (row.serial.0 == serial.0) refl
  where
    by_test : (b : Bool) → (row.serial.0 == serial.0) ≡ b → kept_served (cond b (Some (record row { done = true })) (use_at rows serial)) ≡ served_of rows serial
    by_test true test =
        let there : use_at rows serial ≡ Some row = ap (row_at use_rank rows) (sym (eqb-true _ _ test) ∙ rank-found use_rank rows other.0 row is) ∙ is in
        sym (ap kept_served there)
    by_test false test = refl

settled_taken : (node : NodeId) (key : List ℕ) (cap : ℕ) (rows : List OrderUse) (now : ℕ) (wanted : Wanted) (serial : Serial) (r : Result OrderUse TakeErr) → take_case node key cap rows now wanted ≡ r
    → IsSettled rows serial → IsSettled (rows_taken r rows) serial
settled_taken node key cap rows now wanted serial (Err d) is settled = settled
settled_taken node key cap rows now wanted serial (Ok row) is settled =
    ap is_done (row_at-with_row use_rank rows row serial.0) ∙ by_test (row.serial.0 == serial.0) refl
  where
    by_test : (b : Bool) → (row.serial.0 == serial.0) ≡ b → is_done (cond b (Some row) (use_at rows serial)) ≡ true
    by_test true test =
        let puts = puts_of node key cap rows now wanted row is in
        let own : puts.order.limit.serial.0 ≡ row.serial.0 = ap (λ (r : OrderUse). r.serial.0) puts.counts.is in
        let not_done : is_done (use_at rows serial) ≡ false = ap (λ (n : ℕ). is_done (row_at use_rank rows n)) (sym (own ∙ eqb-true _ _ test)) ∙ puts.counts.not_done in
        absurd (no_both (is_done (use_at rows serial)) settled not_done)
      where
        no_both : (b : Bool) → b ≡ true → b ≡ false → ⊥
        no_both b p q = cc
    by_test false test = settled

settled_finished : (rows : List OrderUse) (serial other : Serial) (o : Option OrderUse) → use_at rows other ≡ o → IsSettled rows serial → IsSettled (rows_finished o rows) serial
settled_finished rows serial other None is settled = settled
settled_finished rows serial other (Some row) is settled =
    ap is_done (row_at-with_row use_rank rows (record row { done = true }) serial.0) ∙ by_test (row.serial.0 == serial.0)
  where
    by_test : (b : Bool) → is_done (cond b (Some (record row { done = true })) (use_at rows serial)) ≡ true
    by_test true = refl
    by_test false = settled

within_taken : (node : NodeId) (key : List ℕ) (cap : ℕ) (rows : List OrderUse) (now : ℕ) (wanted : Wanted) (r : Result OrderUse TakeErr) → take_case node key cap rows now wanted ≡ r
    → AreUses key rows → AreUses key (rows_taken r rows)
within_taken node key cap rows now wanted (Err d) is are = are
within_taken node key cap rows now wanted (Ok row) is are = uses_put key rows row are (put_under key rows wanted row are.each (puts_of node key cap rows now wanted row is))

within_finished : (key : List ℕ) (rows : List OrderUse) (other : Serial) (o : Option OrderUse) → use_at rows other ≡ o → AreUses key rows → AreUses key (rows_finished o rows)
within_finished key rows other None is are = are
within_finished key rows other (Some row) is are = uses_put key rows (record row { done = true }) are (under_done key row (each_found (IsUnderKey key) rows other.0 row are.each is))

-- ---- all calls

module _ (node : NodeId) (key : List ℕ) (cap : ℕ) where
  served_one : (rows : List OrderUse) (serial : Serial) (call : Call) → served_of (after node key cap rows call) serial ≡ served_of rows serial + len_of node key cap rows serial call
  served_one rows serial (take_call now wanted true) = served_taken node key cap rows now wanted serial (take_case node key cap rows now wanted) refl
  served_one rows serial (take_call now wanted false) = none_more (served_of rows serial)
  served_one rows serial (finish_call other true) = served_finished rows serial other (use_at rows other) refl ∙ none_more (served_of rows serial)
  served_one rows serial (finish_call other false) = none_more (served_of rows serial)

  settled_one : (rows : List OrderUse) (serial : Serial) (call : Call) → IsSettled rows serial → IsSettled (after node key cap rows call) serial
  settled_one rows serial (take_call now wanted true) settled = settled_taken node key cap rows now wanted serial (take_case node key cap rows now wanted) refl settled
  settled_one rows serial (take_call now wanted false) settled = settled
  settled_one rows serial (finish_call other true) settled = settled_finished rows serial other (use_at rows other) refl settled
  settled_one rows serial (finish_call other false) settled = settled

  within_one : (rows : List OrderUse) (call : Call) → AreUses key rows → AreUses key (after node key cap rows call)
  within_one rows (take_call now wanted true) are = within_taken node key cap rows now wanted (take_case node key cap rows now wanted) refl are
  within_one rows (take_call now wanted false) are = are
  within_one rows (finish_call other true) are = within_finished key rows other (use_at rows other) refl are
  within_one rows (finish_call other false) are = are

  pub served_all : (rows : List OrderUse) (serial : Serial) (calls : List Call) → served_of (after_all node key cap rows calls) serial ≡ served_of rows serial + accepted node key cap rows serial calls
  served_all rows serial [] = none_more (served_of rows serial)
  served_all rows serial (call ∷ calls) =
      let later = after node key cap rows call in
      let rest = accepted node key cap later serial calls in
      served_all later serial calls ∙ ap (λ (n : ℕ). n + rest) (served_one rows serial call) ∙ add_assoc (served_of rows serial) (len_of node key cap rows serial call) rest

  pub settled_all : (rows : List OrderUse) (serial : Serial) (calls : List Call) → IsSettled rows serial → IsSettled (after_all node key cap rows calls) serial
  settled_all rows serial [] settled = settled
  settled_all rows serial (call ∷ calls) settled = settled_all (after node key cap rows call) serial calls (settled_one rows serial call settled)

  pub within_all : (rows : List OrderUse) (calls : List Call) → AreUses key rows → AreUses key (after_all node key cap rows calls)
  within_all rows [] are = are
  within_all rows (call ∷ calls) are = within_all (after node key cap rows call) calls (within_one rows call are)

-- ---- what is due isn't done

first_due : (key : List ℕ) (now : ℕ) (order : List ℕ) (rows : List OrderUse) → first_order (filter (is_due key now) rows) ≡ Some order
    → (i : ℕ) × (row : OrderUse) × (slice_get rows i ≡ Some row) × (row.order ≡ order) × (is_due key now row ≡ true)
first_due key now order [] e = absurd cc
first_due key now order (first ∷ rest) e = by_test (is_due key now first) refl (λ later. first_due key now order rest later) e
  where
    by_test : (b : Bool) → is_due key now first ≡ b
        → (first_order (filter (is_due key now) rest) ≡ Some order → (i : ℕ) × (row : OrderUse) × (slice_get rest i ≡ Some row) × (row.order ≡ order) × (is_due key now row ≡ true))
        → first_order (cond b (first ∷ filter (is_due key now) rest) (filter (is_due key now) rest)) ≡ Some order
        → (i : ℕ) × (row : OrderUse) × (slice_get (first ∷ rest) i ≡ Some row) × (row.order ≡ order) × (is_due key now row ≡ true)
    by_test true test more is = (0, first, refl, same_Some _ _ is, test)
    by_test false test more is = let found = more is in (suc found.0, found.1, found.2, found.3, found.4)

not_done : (key : List ℕ) (now : ℕ) (row : OrderUse) → is_due key now row ≡ true → row.done ≡ false
unfolding is_due
not_done key now row is = not-true row.done (and_parts (not row.done) (is_order_due now row.served (offer_of key row.order)) is).0

pub offered : (key : List ℕ) (rows : List OrderUse) (now : ℕ) (order : List ℕ) → IsRising use_rank rows → due_of key rows now ≡ Some order
    → (row : OrderUse) × (use_at rows row.serial ≡ Some row) × (row.order ≡ order) × (row.done ≡ false)
offered key rows now order rising e =
    let found = first_due key now order rows e in
    (found.1, row_got use_rank rows rising found.0 found.1 found.2, found.3, not_done key now found.1 found.4)
