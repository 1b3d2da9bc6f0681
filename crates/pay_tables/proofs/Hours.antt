-- A node has a tally an hour, so that its bytes of a month stay small.
use Rattle.std.proofs.Common.{◌≡◌, ℕ, suc, ◌+◌, ◌*◌, ◌^◌, ◌<◌, ◌≤◌, Bool, true, false, List, [], ◌∷◌, length, refl, arith}
use Rattle.std.specs.Prelude.{if◌then◌else◌, ◌==◌, ◌&&◌, filter}
use Rattle.std.specs.List.{sum_by}
use Rattle.std.proofs.Math.Nat.{mul-le-mul_right}
use Rattle.std.proofs.lemmas.Bool.Decides.{nat_tests}
use Rattle.sat_base.specs.declared.ids.NodeId.{NodeId}
use Rattle.rows.specs.Rows.{Each, AllAbove, IsRising}
use Rattle.rows.proofs.Rising.{rising-filter}
use Rattle.settlement.specs.declared.row.SettledRow.{SettledRow}
use Rattle.tally_payout.specs.declared.amounts.Tally.{Tally}
use Rattle.tally_payout.specs.Ranks.{tally_rank}
use Rattle.tally_payout.specs.Tariff.{IsSums}
use Rattle.month_pay.specs.Months.{month_of_hour}
use Rattle.month_pay.specs.Ledger.{is_get, is_audit, is_repair, tallied_in, sums_of}
use Rattle.month_pay.proofs.Amounts.{sum-most, each-filter, moved-most}

-- a tally of the node, of an hour before 2^25
record IsEarly (node : ℕ) (row : Tally) : Type 0 where
  own : row.node.0 ≡ node
  early : row.hour.0 < 2 ^ 25

later-rows : (node : ℕ) (row : Tally) (rows : List Tally) → row.node.0 ≡ node → AllAbove tally_rank (tally_rank row) rows → Each (IsEarly node) rows → Each (λ other. suc row.hour.0 ≤ other.hour.0) rows
later-rows node row [] own above each = tt
later-rows node row (other ∷ rows) own above each = (omega (arith, own, above.0, each.0.own), later-rows node row rows own above.1 each.1)

hours-few : (node start : ℕ) (rows : List Tally) → start ≤ 2 ^ 25 → IsRising tally_rank rows → Each (IsEarly node) rows → Each (λ row. start ≤ row.hour.0) rows → start + length rows ≤ 2 ^ 25
hours-few node start [] begun rising each from = omega arith
hours-few node start (row ∷ rows) begun rising each from =
    let later = later-rows node row rows each.0.own rising.0 each.1 in
    let rest = hours-few node (suc row.hour.0) rows (omega (arith, each.0.early)) rising.1 each.1 later in
    omega (arith, rest, from.0)

from-start : (rows : List Tally) → Each (λ row. 0 ≤ row.hour.0) rows
from-start [] = tt
from-start (row ∷ rows) = (omega arith, from-start rows)

-- the tallies of a node in a month
own-rows : (node : NodeId) (month : ℕ) (rows : List Tally) → Each (λ row. row.hour.0 * 3600 < 2 ^ 36) rows → Each (IsEarly node.0) (filter (λ row. (row.node.0 == node.0) && (month_of_hour row.hour.0 == month)) rows)
own-rows node month [] early = tt
own-rows node month (row ∷ rows) early = go (row.node.0 == node.0) (month_of_hour row.hour.0 == month) refl (own-rows node month rows early.1)
  where
    go : (a b : Bool) → (row.node.0 == node.0) ≡ a → Each (IsEarly node.0) (filter (λ other. (other.node.0 == node.0) && (month_of_hour other.hour.0 == month)) rows)
        → Each (IsEarly node.0) (if a && b then row ∷ filter (λ other. (other.node.0 == node.0) && (month_of_hour other.hour.0 == month)) rows else filter (λ other. (other.node.0 == node.0) && (month_of_hour other.hour.0 == month)) rows)
    go true true e rest = (record { own = grind (arith, nat_tests, e); early = omega (arith, early.0) }, rest)
    go true false e rest = rest
    go false b e rest = rest

tallied-small : (rows : List Tally) (node : NodeId) (month : ℕ) → IsRising tally_rank rows → Each (λ row. row.bytes ≤ 2 ^ 44) rows → Each (λ row. row.hour.0 * 3600 < 2 ^ 36) rows → sum_by (λ row. row.bytes) (tallied_in rows node month) < 2 ^ 90
unfolding tallied_in
tallied-small rows node month rising bytes early =
    let test : Tally → Bool = λ row. (row.node.0 == node.0) && (month_of_hour row.hour.0 == month) in
    let own : List Tally = filter test rows in
    let count : 0 + length own ≤ 2 ^ 25 = hours-few node.0 0 own (omega arith) (rising-filter tally_rank test rows rising) (own-rows node month rows early) (from-start own) in
    let most : sum_by (λ (row : Tally). row.bytes) own ≤ length own * 2 ^ 44 = sum-most (λ (row : Tally). row.bytes) (2 ^ 44) own (each-filter (λ (row : Tally). row.bytes ≤ 2 ^ 44) test rows bytes) in
    let within : length own ≤ 2 ^ 25 = omega (arith, count) in
    let times = mul-le-mul_right (2 ^ 44) within in
    omega (arith, most, times)

-- what a node did in a month is within the bounds of sums
pub sums-small : (settled : List SettledRow) (tallies : List Tally) (node : NodeId) (month : ℕ) → Each (λ row. row.amount < 2 ^ 64) settled → length settled ≤ 4194304
    → IsRising tally_rank tallies → Each (λ row. row.bytes ≤ 2 ^ 44) tallies → Each (λ row. row.hour.0 * 3600 < 2 ^ 36) tallies → IsSums (sums_of settled tallies node month)
sums-small settled tallies node month amounts few rising bytes early = record {
  fetched = moved-most is_get settled node month amounts few;
  audited = moved-most is_audit settled node month amounts few;
  repaired = moved-most is_repair settled node month amounts few;
  kept = tallied-small tallies node month rising bytes early;
}
