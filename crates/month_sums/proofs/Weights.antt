-- A sum over the rows that pass a test is a sum of weights over all rows, and a row more adds its weight.
use Rattle.std.proofs.Common.{◌≡◌, ℕ, ◌+◌, ◌^◌, ◌<◌, Bool, true, false, List, [], ◌∷◌, Option, Some, None, refl, sym, ap, subst, ◌∙◌, arith}
use Rattle.std.specs.Prelude.{if◌then◌else◌, ◌==◌, ◌&&◌, nat_lt, filter}
use Rattle.std.specs.List.{sum_by}
use Rattle.std.proofs.lemmas.List.Sums.{sum_by-cons}
use Rattle.std.proofs.lemmas.Bool.Decides.{nat_tests}
use Rattle.sat_base.specs.declared.ids.NodeId.{NodeId}
use Rattle.order_limits.specs.declared.limit.Action.{Action}
use Rattle.order_limits.specs.declared.limit.Action.TheVariants as actions
use Rattle.rows.specs.Rows.{row_at}
use Rattle.rows.specs.Slots.{with_row}
use Rattle.settlement.specs.declared.row.SettledRow.{SettledRow}
use Rattle.settlement.specs.Rows.{key}
use Rattle.tally_payout.specs.declared.amounts.Sums.{Sums}
use Rattle.tally_payout.specs.declared.amounts.Tally.{Tally}
use Rattle.tally_payout.specs.declared.amounts.Statement.{Statement}
use Rattle.month_pay.specs.Months.{month_at}
use Rattle.tally_payout.specs.Ranks.{month_place}
use Rattle.month_pay.specs.Ledger.{is_get, is_audit, is_repair, settled_in, moved, sums_of}
use Rattle.rows.proofs.Found.{row_at-with_row}
use Rattle.month_sums.specs.declared.sums.OpenSums.{OpenSums}
use Rattle.month_sums.specs.Open.{open_rank, sums_in, sums_at, more_of, GoByRows}
use Rattle.month_pay.proofs.Conserved.{same-id}

module _ {X : Type 0} (f : X → ℕ) where
  weighed : (p q : X → Bool) (xs : List X) → sum_by f (filter p (filter q xs)) ≡ sum_by (λ x. if q x && p x then f x else 0) xs
  weighed p q [] = refl
  weighed p q (x ∷ xs) = go (q x) (p x) refl refl (weighed p q xs) (sum_by-cons (λ y. if q y && p y then f y else 0) x xs)
    where
      go : (b c : Bool) → q x ≡ b → p x ≡ c → sum_by f (filter p (filter q xs)) ≡ sum_by (λ y. if q y && p y then f y else 0) xs
          → sum_by (λ y. if q y && p y then f y else 0) (x ∷ xs) ≡ (if q x && p x then f x else 0) + sum_by (λ y. if q y && p y then f y else 0) xs
          → sum_by f (filter p (if b then x ∷ filter q xs else filter q xs)) ≡ sum_by (λ y. if q y && p y then f y else 0) (x ∷ xs)
      go true true e g h cons = let kept = sum_by-cons f x (filter p (filter q xs)) in grind (arith, nat_tests, e, g, h, cons, kept)
      go true false e g h cons = grind (arith, nat_tests, e, g, h, cons)
      go false c e g h cons = grind (arith, nat_tests, e, g, h, cons)

  -- a row more
  pub sum_by-with_row : (rank : X → ℕ) (xs : List X) (x : X) → row_at rank xs (rank x) ≡ None → sum_by f (with_row rank xs x) ≡ sum_by f xs + f x
  sum_by-with_row rank [] x none = omega (arith, sum_by-cons f x [])
  sum_by-with_row rank (y ∷ ys) x none = go (nat_lt (rank x) (rank y)) (rank x == rank y) refl (λ h. sum_by-with_row rank ys x h)
    where
      go : (lower same : Bool) → (rank x == rank y) ≡ same → (row_at rank ys (rank x) ≡ None → sum_by f (with_row rank ys x) ≡ sum_by f ys + f x)
          → sum_by f (if lower then x ∷ y ∷ ys else if same then x ∷ ys else y ∷ with_row rank ys x) ≡ sum_by f (y ∷ ys) + f x
      go true same e later = omega (arith, sum_by-cons f x (y ∷ ys))
      go false true e later = absurd (taken e)
        where
          taken : (rank x == rank y) ≡ true → ⊥
          taken is = grind (arith, nat_tests, none, is)
      go false false e later =
          let rest : row_at rank ys (rank x) ≡ None = grind (arith, nat_tests, none, e) in
          omega (arith, later rest, sum_by-cons f y (with_row rank ys x), sum_by-cons f y ys)

-- the row counts for a node's month
abbrev counts : SettledRow → NodeId → ℕ → Bool
counts row node month = (row.node.0 == node.0) && (month_at row.at == month)

moved-more : (for : Action → Bool) (rows : List SettledRow) (row : SettledRow) (node : NodeId) (month : ℕ) → row_at key rows (key row) ≡ None
    → moved for (settled_in (with_row key rows row) node month) ≡ moved for (settled_in rows node month) + (if counts row node month && for row.action then row.amount else 0)
unfolding settled_in
moved-more for rows row node month none =
    let amount : SettledRow → ℕ = λ r. r.amount in
    let p : SettledRow → Bool = λ r. for r.action in
    let q : SettledRow → Bool = λ r. counts r node month in
    weighed amount p q (with_row key rows row)
    ∙ (sum_by-with_row (λ r. if q r && p r then amount r else 0) key rows row none
    ∙ ap (λ (n : ℕ). n + (if q row && p row then amount row else 0)) (sym (weighed amount p q rows)))

-- a row that counts adds its amount to the sum of its cause
sums-more : (settled : List SettledRow) (tallies : List Tally) (row : SettledRow) (node : NodeId) (month : ℕ) → row_at key settled (key row) ≡ None → counts row node month ≡ true
    → sums_of (with_row key settled row) tallies node month ≡ more_of (sums_of settled tallies node month) row.action row.amount
sums-more settled tallies row node month none is =
    go row.action (moved-more is_get settled row node month none) (moved-more is_audit settled row node month none) (moved-more is_repair settled row node month none)
  where
    nothing : (n : ℕ) → n + 0 ≡ n
    nothing n = omega arith

    go : (action : Action) → moved is_get (settled_in (with_row key settled row) node month) ≡ moved is_get (settled_in settled node month) + (if counts row node month && is_get action then row.amount else 0)
        → moved is_audit (settled_in (with_row key settled row) node month) ≡ moved is_audit (settled_in settled node month) + (if counts row node month && is_audit action then row.amount else 0)
        → moved is_repair (settled_in (with_row key settled row) node month) ≡ moved is_repair (settled_in settled node month) + (if counts row node month && is_repair action then row.amount else 0)
        → sums_of (with_row key settled row) tallies node month ≡ more_of (sums_of settled tallies node month) action row.amount
    go actions.Get g a r = rw (g, a, r, is, nothing (moved is_audit (settled_in settled node month)), nothing (moved is_repair (settled_in settled node month))) refl
    go actions.GetAudit g a r = rw (g, a, r, is, nothing (moved is_get (settled_in settled node month)), nothing (moved is_repair (settled_in settled node month))) refl
    go actions.GetRepair g a r = rw (g, a, r, is, nothing (moved is_get (settled_in settled node month)), nothing (moved is_audit (settled_in settled node month))) refl
    go actions.Put g a r = rw (g, a, r, is, nothing (moved is_get (settled_in settled node month)), nothing (moved is_audit (settled_in settled node month)), nothing (moved is_repair (settled_in settled node month))) refl
    go actions.PutRepair g a r = rw (g, a, r, is, nothing (moved is_get (settled_in settled node month)), nothing (moved is_audit (settled_in settled node month)), nothing (moved is_repair (settled_in settled node month))) refl

-- one that doesn't leaves the sums
sums-other : (settled : List SettledRow) (tallies : List Tally) (row : SettledRow) (node : NodeId) (month : ℕ) → row_at key settled (key row) ≡ None → counts row node month ≡ false
    → sums_of (with_row key settled row) tallies node month ≡ sums_of settled tallies node month
sums-other settled tallies row node month none out =
    let nothing : (n : ℕ) → n + 0 ≡ n = λ n. omega arith in
    let g = rw out at (moved-more is_get settled row node month none) in
    let a = rw out at (moved-more is_audit settled row node month none) in
    let r = rw out at (moved-more is_repair settled row node month none) in
    rw (g, a, r, nothing (moved is_get (settled_in settled node month)), nothing (moved is_audit (settled_in settled node month)), nothing (moved is_repair (settled_in settled node month))) refl

-- two places are one where month and node are
pub one_place : (m n node other : ℕ) → node < 2 ^ 32 → other < 2 ^ 32 → month_place m node ≡ month_place n other → (m ≡ n) × (node ≡ other)
one_place m n node other lt lt' h = (omega arith, omega arith)

-- the sums stay in step with the rows where an order settles
pub settled_keeps : (rows : List OpenSums) (new : OpenSums) (row : SettledRow) (settled : List SettledRow) (tallies : List Tally) (statements : List Statement) → row.node.0 < 2 ^ 32 → new.month.0 ≡ month_at row.at → new.node ≡ row.node
    → new.sums ≡ more_of (sums_at rows (month_at row.at) row.node) row.action row.amount → row_at key settled (key row) ≡ None
    → GoByRows rows settled tallies statements → GoByRows (with_row open_rank rows new) (with_row key settled row) tallies statements
settled_keeps rows new row settled tallies statements low is_month is_node is none go_by node month lt still =
    subst (λ (o : Option OpenSums). sums_in o ≡ sums_of (with_row key settled row) tallies node month) (sym (row_at-with_row open_rank rows new (month_place month node.0)))
    (go (counts row node month) refl (open_rank new == month_place month node.0) refl)
  where
    whose : new.node.0 ≡ row.node.0
    whose = ap (λ (n : NodeId). n.0) is_node

    go : (b : Bool) → counts row node month ≡ b → (c : Bool) → (open_rank new == month_place month node.0) ≡ c
        → sums_in (if c then Some new else row_at open_rank rows (month_place month node.0)) ≡ sums_of (with_row key settled row) tallies node month
    go true e true f =
        let in_month : month_at row.at ≡ month = grind (arith, nat_tests, e) in
        let own : row.node.0 ≡ node.0 = grind (arith, nat_tests, e) in
        let owner = same-id row.node node own in
        let before : sums_at rows (month_at row.at) row.node ≡ sums_of settled tallies node month = ap (λ (m : ℕ). sums_at rows m row.node) in_month ∙ (ap (λ (n : NodeId). sums_at rows month n) owner ∙ go_by node month lt still) in
        is ∙ (ap (λ (sums : Sums). more_of sums row.action row.amount) before ∙ sym (sums-more settled tallies row node month none e))
    go true e false f =
        let in_month : month_at row.at ≡ month = grind (arith, nat_tests, e) in
        let own : row.node.0 ≡ node.0 = grind (arith, nat_tests, e) in
        let equal : open_rank new ≡ month_place month node.0 = ap (λ (m : ℕ). month_place m new.node.0) (is_month ∙ in_month) ∙ ap (λ (n : ℕ). month_place month n) (whose ∙ own) in
        let yes : (open_rank new == month_place month node.0) ≡ true = grind (arith, nat_tests, equal) in
        absurd cc
    go false e true f =
        let equal : open_rank new ≡ month_place month node.0 = grind (arith, nat_tests, f) in
        let parts = one_place new.month.0 month new.node.0 node.0 (omega (arith, whose)) lt equal in
        let in_month : month_at row.at ≡ month = sym is_month ∙ parts.0 in
        let own : row.node.0 ≡ node.0 = sym whose ∙ parts.1 in
        let yes : counts row node month ≡ true = grind (arith, nat_tests, in_month, own) in
        absurd cc
    go false e false f = go_by node month lt still ∙ sym (sums-other settled tallies row node month none e)
