-- An amount that is put.
use Rattle.std.proofs.Common.{◌≡◌, ℕ, ◌+◌, ◌-◌, ◌≤◌, Bool, true, false, List, Some, refl, sym, ap, subst, ◌∙◌, arith}
use Rattle.std.specs.Prelude.{if◌then◌else◌, ◌==◌, is_some}
use Rattle.std.specs.List.{list_any}
use Rattle.std.proofs.lemmas.Bool.Decides.{nat_tests}
use Rattle.sat_base.specs.declared.ids.NodeId.{NodeId}
use Rattle.rows.specs.Rows.{row_at}
use Rattle.rows.specs.Slots.{Slots, has_slot, with_row}
use Rattle.rows.proofs.Found.{row_at-with_row}
use Rattle.pay_tables.specs.declared.balance.Balance.{Balance}
use Rattle.pay_tables.specs.Amounts.{balance_rank, amount_in, amount_at, HasItsSlots}

pub amount-put : (rows : List Balance) (new : Balance) (node : NodeId) → amount_at (with_row balance_rank rows new) node ≡ (if new.node.0 == node.0 then new.amount else amount_at rows node)
amount-put rows new node = ap amount_in (row_at-with_row balance_rank rows new node.0) ∙ go (new.node.0 == node.0)
  where
    go : (b : Bool) → amount_in (if b then Some new else row_at balance_rank rows node.0) ≡ (if b then new.amount else amount_at rows node)
    go true = refl
    go false = refl

-- amounts go by the number of the node
pub same-amount : (rows : List Balance) (one other : NodeId) → one.0 ≡ other.0 → amount_at rows one ≡ amount_at rows other
same-amount rows one other same = ap (λ (k : ℕ). amount_in (row_at balance_rank rows k)) same

-- more at one node
pub raised : (rows : List Balance) (new : Balance) (bytes : ℕ) (other : NodeId) → new.amount ≡ amount_at rows new.node + bytes → amount_at (with_row balance_rank rows new) other ≡ amount_at rows other + (if new.node.0 == other.0 then bytes else 0)
raised rows new bytes other is = amount-put rows new other ∙ go (new.node.0 == other.0) refl
  where
    go : (b : Bool) → (new.node.0 == other.0) ≡ b → (if b then new.amount else amount_at rows other) ≡ amount_at rows other + (if b then bytes else 0)
    go true e =
        let same : new.node.0 ≡ other.0 = grind (arith, nat_tests, e) in
        is ∙ ap (λ (n : ℕ). n + bytes) (same-amount rows new.node other same)
    go false e = omega arith

-- less at one node
pub lowered : (rows : List Balance) (new : Balance) (bytes : ℕ) (other : NodeId) → bytes ≤ amount_at rows new.node → new.amount ≡ amount_at rows new.node - bytes → amount_at (with_row balance_rank rows new) other + (if new.node.0 == other.0 then bytes else 0) ≡ amount_at rows other
lowered rows new bytes other low is = ap (λ (n : ℕ). n + (if new.node.0 == other.0 then bytes else 0)) (amount-put rows new other) ∙ go (new.node.0 == other.0) refl
  where
    go : (b : Bool) → (new.node.0 == other.0) ≡ b → (if b then new.amount else amount_at rows other) + (if b then bytes else 0) ≡ amount_at rows other
    go true e =
        let same : new.node.0 ≡ other.0 = grind (arith, nat_tests, e) in
        let here = same-amount rows new.node other same in
        let whole : amount_at rows new.node - bytes + bytes ≡ amount_at rows new.node = omega arith in
        ap (λ (n : ℕ). n + bytes) is ∙ (whole ∙ here)
    go false e = omega arith

-- rows keep their slots where one is put into its own
pub slots-put : (old new : Slots Balance) (balance : Balance) → HasItsSlots old → has_slot old balance.node.0 ≡ true → new.rows ≡ with_row balance_rank old.rows balance → new.slots ≡ old.slots → HasItsSlots new
slots-put old new balance own placed rows slots k some =
    ap (λ (s : List ℕ). list_any (λ slot. slot == k) s) slots
    ∙ go (balance.node.0 == k) refl (sym (ap is_some (ap (λ (r : List Balance). row_at balance_rank r k) rows ∙ row_at-with_row balance_rank old.rows balance k)) ∙ some)
  where
    go : (b : Bool) → (balance.node.0 == k) ≡ b → is_some (if b then Some balance else row_at balance_rank old.rows k) ≡ true → has_slot old k ≡ true
    go true e h = let same : balance.node.0 ≡ k = grind (arith, nat_tests, e) in subst (λ (n : ℕ). has_slot old n ≡ true) same placed
    go false e h = own k h
