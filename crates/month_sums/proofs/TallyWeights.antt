-- A tally more adds its bytes to the sum of its node and month.
use Rattle.std.proofs.Common.{◌≡◌, ℕ, ◌+◌, ◌^◌, ◌<◌, Bool, true, false, List, [], ◌∷◌, Option, Some, None, refl, sym, ap, subst, ◌∙◌, arith}
use Rattle.std.specs.Prelude.{if◌then◌else◌, ◌==◌, ◌&&◌, filter}
use Rattle.std.specs.List.{sum_by}
use Rattle.std.proofs.lemmas.List.Sums.{sum_by-cons}
use Rattle.std.proofs.lemmas.Bool.Decides.{nat_tests}
use Rattle.sat_base.specs.declared.ids.NodeId.{NodeId}
use Rattle.rows.specs.Rows.{row_at}
use Rattle.rows.specs.Slots.{with_row}
use Rattle.settlement.specs.declared.row.SettledRow.{SettledRow}
use Rattle.tally_payout.specs.declared.amounts.Sums.{Sums}
use Rattle.tally_payout.specs.declared.amounts.Tally.{Tally}
use Rattle.tally_payout.specs.declared.amounts.Statement.{Statement}
use Rattle.month_pay.specs.Months.{month_of_hour}
use Rattle.tally_payout.specs.Ranks.{month_place, tally_rank}
use Rattle.month_pay.specs.Ledger.{tallied_in, sums_of}
use Rattle.rows.proofs.Found.{row_at-with_row}
use Rattle.month_sums.specs.declared.sums.OpenSums.{OpenSums}
use Rattle.month_sums.specs.Open.{open_rank, sums_in, sums_at, with_bytes, GoByRows}
use Rattle.month_sums.proofs.Weights.{sum_by-with_row, one_place}
use Rattle.month_pay.proofs.Conserved.{same-id}

weighed : {X : Type 0} (f : X → ℕ) (q : X → Bool) (xs : List X) → sum_by f (filter q xs) ≡ sum_by (λ x. if q x then f x else 0) xs
weighed f q [] = refl
weighed f q (x ∷ xs) = go (q x) refl (weighed f q xs) (sum_by-cons (λ y. if q y then f y else 0) x xs)
  where
    go : (b : Bool) → q x ≡ b → sum_by f (filter q xs) ≡ sum_by (λ y. if q y then f y else 0) xs
        → sum_by (λ y. if q y then f y else 0) (x ∷ xs) ≡ (if q x then f x else 0) + sum_by (λ y. if q y then f y else 0) xs
        → sum_by f (if b then x ∷ filter q xs else filter q xs) ≡ sum_by (λ y. if q y then f y else 0) (x ∷ xs)
    go true e h cons = let kept = sum_by-cons f x (filter q xs) in grind (arith, nat_tests, e, h, cons, kept)
    go false e h cons = grind (arith, nat_tests, e, h, cons)

-- the tally counts for a node's month
abbrev counts : Tally → NodeId → ℕ → Bool
counts row node month = (row.node.0 == node.0) && (month_of_hour row.hour.0 == month)

tallied-more : (rows : List Tally) (row : Tally) (node : NodeId) (month : ℕ) → row_at tally_rank rows (tally_rank row) ≡ None
    → sum_by (λ r. r.bytes) (tallied_in (with_row tally_rank rows row) node month) ≡ sum_by (λ r. r.bytes) (tallied_in rows node month) + (if counts row node month then row.bytes else 0)
unfolding tallied_in
tallied-more rows row node month none =
    let bytes : Tally → ℕ = λ r. r.bytes in
    let q : Tally → Bool = λ r. counts r node month in
    weighed bytes q (with_row tally_rank rows row)
    ∙ (sum_by-with_row (λ r. if q r then bytes r else 0) tally_rank rows row none
    ∙ ap (λ (n : ℕ). n + (if q row then bytes row else 0)) (sym (weighed bytes q rows)))

sums-more : (settled : List SettledRow) (tallies : List Tally) (row : Tally) (node : NodeId) (month : ℕ) → row_at tally_rank tallies (tally_rank row) ≡ None → counts row node month ≡ true
    → sums_of settled (with_row tally_rank tallies row) node month ≡ with_bytes (sums_of settled tallies node month) row.bytes
sums-more settled tallies row node month none is =
    let more = rw is at (tallied-more tallies row node month none) in
    rw more refl

sums-other : (settled : List SettledRow) (tallies : List Tally) (row : Tally) (node : NodeId) (month : ℕ) → row_at tally_rank tallies (tally_rank row) ≡ None → counts row node month ≡ false
    → sums_of settled (with_row tally_rank tallies row) node month ≡ sums_of settled tallies node month
sums-other settled tallies row node month none out =
    let nothing : (n : ℕ) → n + 0 ≡ n = λ n. omega arith in
    let more = rw out at (tallied-more tallies row node month none) in
    rw (more, nothing (sum_by (λ r. r.bytes) (tallied_in tallies node month))) refl

-- the sums stay in step with the rows where a node is tallied
pub tally_keeps : (rows : List OpenSums) (new : OpenSums) (row : Tally) (settled : List SettledRow) (tallies : List Tally) (statements : List Statement) → row.node.0 < 2 ^ 32 → new.month.0 ≡ month_of_hour row.hour.0 → new.node ≡ row.node
    → new.sums ≡ with_bytes (sums_at rows (month_of_hour row.hour.0) row.node) row.bytes → row_at tally_rank tallies (tally_rank row) ≡ None
    → GoByRows rows settled tallies statements → GoByRows (with_row open_rank rows new) settled (with_row tally_rank tallies row) statements
tally_keeps rows new row settled tallies statements low is_month is_node is none go_by node month lt still =
    subst (λ (o : Option OpenSums). sums_in o ≡ sums_of settled (with_row tally_rank tallies row) node month) (sym (row_at-with_row open_rank rows new (month_place month node.0)))
    (go (counts row node month) refl (open_rank new == month_place month node.0) refl)
  where
    whose : new.node.0 ≡ row.node.0
    whose = ap (λ (n : NodeId). n.0) is_node

    go : (b : Bool) → counts row node month ≡ b → (c : Bool) → (open_rank new == month_place month node.0) ≡ c
        → sums_in (if c then Some new else row_at open_rank rows (month_place month node.0)) ≡ sums_of settled (with_row tally_rank tallies row) node month
    go true e true f =
        let in_month : month_of_hour row.hour.0 ≡ month = grind (arith, nat_tests, e) in
        let own : row.node.0 ≡ node.0 = grind (arith, nat_tests, e) in
        let owner = same-id row.node node own in
        let before : sums_at rows (month_of_hour row.hour.0) row.node ≡ sums_of settled tallies node month = ap (λ (m : ℕ). sums_at rows m row.node) in_month ∙ (ap (λ (n : NodeId). sums_at rows month n) owner ∙ go_by node month lt still) in
        is ∙ (ap (λ (sums : Sums). with_bytes sums row.bytes) before ∙ sym (sums-more settled tallies row node month none e))
    go true e false f =
        let in_month : month_of_hour row.hour.0 ≡ month = grind (arith, nat_tests, e) in
        let own : row.node.0 ≡ node.0 = grind (arith, nat_tests, e) in
        let equal : open_rank new ≡ month_place month node.0 = ap (λ (m : ℕ). month_place m new.node.0) (is_month ∙ in_month) ∙ ap (λ (n : ℕ). month_place month n) (whose ∙ own) in
        let yes : (open_rank new == month_place month node.0) ≡ true = grind (arith, nat_tests, equal) in
        absurd cc
    go false e true f =
        let equal : open_rank new ≡ month_place month node.0 = grind (arith, nat_tests, f) in
        let parts = one_place new.month.0 month new.node.0 node.0 (omega (arith, whose)) lt equal in
        let in_month : month_of_hour row.hour.0 ≡ month = sym is_month ∙ parts.0 in
        let own : row.node.0 ≡ node.0 = sym whose ∙ parts.1 in
        let yes : counts row node month ≡ true = grind (arith, nat_tests, in_month, own) in
        absurd cc
    go false e false f = go_by node month lt still ∙ sym (sums-other settled tallies row node month none e)
