-- The last moment is in a month of the year 4147.
use Rattle.std.proofs.Common.{◌≡◌, ℕ, ◌-◌, ◌/◌, ◌<◌, ◌≤◌, ◌^◌, Bool, true, false, refl, arith, pos}
use Rattle.std.specs.Prelude.{nat_le}
use Rattle.std.proofs.lemmas.Bool.Decides.{nat_tests}
use Rattle.sat_base.specs.declared.limits.TheConstants as limits
use Rattle.jiff_core.specs.Calendar.{day_count}
use Rattle.jiff_core.proofs.MarchLemmas.{day_count-early}
use Rattle.sat_base.specs.Month.{days_of_months}
use Rattle.sat_base.proofs.MonthLemmas.{day_count-days_of_months}
use Rattle.month_pay.specs.Months.{month_at}
use Rattle.month_pay.proofs.MonthFacts.{days_mono, is_month}

-- the days before 1 January 4148
days_last : (last : ℕ) → last ≡ 26136 → 795_364 < days_of_months last
days_last last e =
    let start : day_count (pos 4148) 1 1 ≡ 5_167_451 = day_count-early (pos 4148) 14147 1 1 refl (omega arith) (omega arith) (omega arith) in
    omega (arith, start, day_count-days_of_months last 4148 0 (omega arith) (omega arith))

pub month_most : (at : ℕ) → at < 2 ^ 36 → month_at at ≤ limits.LAST_MONTH
month_most at lt = go (nat_le (month_at at) 49775) refl
  where
    go : (b : Bool) → nat_le (month_at at) 49775 ≡ b → month_at at ≤ 49775
    go true e = grind (arith, nat_tests, e)
    go false e =
        let late : 49776 ≤ month_at at = grind (arith, nat_tests, e) in
        let is = is_month at in
        let from : days_of_months (month_at at - 23640) ≤ at / 86400 = is.1 in
        absurd (omega (arith, days_last 26136 refl, days_mono 26136 (month_at at - 23640) (omega arith), from))
