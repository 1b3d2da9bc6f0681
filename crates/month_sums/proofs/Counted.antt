-- Rows that are counted one after another.
use Rattle.std.proofs.Common.{◌≡◌, ℕ, zero, suc, ◌+◌, ◌^◌, ◌<◌, ◌≤◌, List, [], ◌∷◌, length, take, Some, None, refl, sym, ap, subst, ◌∙◌, arith}
use Rattle.std.specs.Prelude.{slice_get}
use Rattle.std.proofs.lemmas.Bool.Decides.{nat_tests}
use Rattle.sat_base.specs.declared.ids.NodeId.{NodeId}
use Rattle.rows.specs.Rows.{Each, row_at, AllAbove, IsRising}
use Rattle.rows.specs.Slots.{with_row}
use Rattle.settlement.specs.declared.row.SettledRow.{SettledRow}
use Rattle.tally_payout.specs.declared.amounts.Sums.{Sums}
use Rattle.tally_payout.specs.declared.amounts.Tally.{Tally}
use Rattle.tally_payout.specs.Tariff.{IsSums}
use Rattle.month_pay.specs.Ledger.{settled_in, tallied_in, sums_of}
use Rattle.month_pay.proofs.Amounts.{sums_most}
use Rattle.month_sums.specs.declared.sums.OpenSums.{OpenSums}
use Rattle.month_sums.specs.Open.{sums_at, GoByRows}
use Rattle.month_sums.specs.Counting.{AreOrders, AreHours, AreSmall}

-- nothing is counted yet
pub none_counted : GoByRows [] [] [] []
unfolding settled_in tallied_in
none_counted node month lt still = refl

module _ {R : Type 0} (rank : R → ℕ) where
  above_got : (n : ℕ) (rows : List R) (i : ℕ) (row : R) → AllAbove rank n rows → slice_get rows i ≡ Some row → n < rank row
  above_got n [] i row above got = absurd cc
  above_got n (first ∷ rest) zero row above got = let same : first ≡ row = cc in subst (λ (r : R). n < rank r) same above.0
  above_got n (first ∷ rest) (suc i) row above got = above_got n rest i row above.1 got

  -- the next of rising rows has no row before it, and goes behind those before it
  pub next_absent : (rows : List R) (i : ℕ) (row : R) → IsRising rank rows → slice_get rows i ≡ Some row → row_at rank (take i rows) (rank row) ≡ None
  next_absent [] i row rising got = absurd cc
  next_absent (first ∷ rest) zero row rising got = refl
  next_absent (first ∷ rest) (suc i) row rising got =
      let later = above_got (rank first) rest i row rising.0 got in
      grind (arith, nat_tests, later, next_absent rest i row rising.1 got)

  behind_one : (rows : List R) (i : ℕ) (row : R) → IsRising rank rows → slice_get rows i ≡ Some row → with_row rank (take i rows) row ≡ take (suc i) rows
  behind_one [] i row rising got = absurd cc
  behind_one (first ∷ rest) zero row rising got = let same : row ≡ first = cc in ap (λ (r : R). r ∷ []) same
  behind_one (first ∷ rest) (suc i) row rising got =
      let later = above_got (rank first) rest i row rising.0 got in
      grind (arith, nat_tests, later, behind_one rest i row rising.1 got)

  pub next_behind : (rows : List R) (i : ℕ) (row : R) → IsRising rank rows → slice_get rows i ≡ Some row → with_row rank (take i rows) row ≡ take (i + 1) rows
  next_behind rows i row rising got = let next : suc i ≡ i + 1 = omega arith in behind_one rows i row rising got ∙ ap (λ (n : ℕ). take n rows) next

pub each-take : {X : Type 0} (P : X → Type 0) (i : ℕ) (xs : List X) → Each P xs → Each P (take i xs)
each-take P zero xs each = tt
each-take P (suc i) [] each = tt
each-take P (suc i) (x ∷ xs) each = (each.0, each-take P i xs each.1)

-- one more of them
pub each-more : {X : Type 0} (P : X → Type 0) (xs : List X) (i : ℕ) (x : X) → Each P (take i xs) → slice_get xs i ≡ Some x → P x → Each P (take (i + 1) xs)
each-more {X} P xs i x each got here = let next : suc i ≡ i + 1 = omega arith in subst (λ (n : ℕ). Each P (take n xs)) next (go xs i each got)
  where
    go : (xs : List X) (i : ℕ) → Each P (take i xs) → slice_get xs i ≡ Some x → Each P (take (suc i) xs)
    go [] i each got = absurd cc
    go (y ∷ ys) zero each got = let same : x ≡ y = cc in (subst P same here, tt)
    go (y ∷ ys) (suc i) each got = (each.0, go ys i each.1 got)

pub take-most : {X : Type 0} (i : ℕ) (xs : List X) → length (take i xs) ≤ length xs
take-most zero xs = omega arith
take-most (suc i) [] = omega arith
take-most (suc i) (x ∷ xs) = omega (arith, take-most i xs)

-- what was counted so far is within the bounds of sums
pub counted_fit : (rows : List OpenSums) (settled : List SettledRow) (tallies : List Tally) (i j : ℕ) (node : NodeId) (month : ℕ) → AreOrders settled → AreSmall (take i settled) → AreHours tallies → node.0 < 2 ^ 32
    → GoByRows rows (take i settled) (take j tallies) [] → IsSums (sums_at rows month node)
counted_fit rows settled tallies i j node month orders small hours low go_by =
    let most : IsSums (sums_of (take i settled) (take j tallies) node month)
    = sums_most (take i settled) (take j tallies) node month small (omega (arith, take-most i settled, orders.few))
    (each-take (λ (row : Tally). row.bytes ≤ 2 ^ 44) j tallies hours.small) (omega (arith, take-most j tallies, hours.few)) in
    subst (λ (s : Sums). IsSums s) (sym (go_by node month low refl)) most
