-- The month of a moment is the one that holds its day, and later moments have no earlier month.
use Rattle.std.proofs.Common.{◌≡◌, ℕ, zero, suc, ◌+◌, ◌-◌, ◌*◌, ◌/◌, ◌<◌, ◌≤◌, Bool, true, false, refl, ap, arith}
use Rattle.std.specs.Prelude.{nat_le, if◌then◌else◌}
use Rattle.std.proofs.lemmas.Bool.Decides.{nat_tests}
use Rattle.sat_base.specs.Month.{month_days, days_of_months, first_day, IsMonthOf}
use Rattle.sat_base.proofs.MonthLemmas.{days_of_months-add, IsMonthOf_mono, IsMonthOf_only}
use Rattle.month_pay.specs.Months.{begun_by, month_of_day, month_at, month_of_hour}

pub days_mono : (m n : ℕ) → m ≤ n → days_of_months m ≤ days_of_months n
days_mono m n h =
    let same : n - m + m ≡ n = omega arith in
    rw same at (days_of_months-add m (n - m))

-- each month has a day
month-some : (month : ℕ) → 1 ≤ month_days month
month-some month = grind (arith, nat_tests)

days-most : (n : ℕ) → n ≤ days_of_months n
unfolding days_of_months
days-most zero = omega arith
days-most (suc n) = omega (arith, days-most n, month-some (23640 + n))

all_begun : (day n : ℕ) → days_of_months n ≤ day → begun_by day n ≡ n
unfolding begun_by
all_begun day zero h = refl
all_begun day (suc n) h =
    let earlier = days_mono n (suc n) (omega arith) in
    grind (arith, nat_tests, all_begun day n)

-- the day lies in the last month that has begun
pub record Holds (day n : ℕ) : Type 0 where
  pub begun : days_of_months n ≤ day
  pub going : day < days_of_months (suc n)

holds : (day n : ℕ) → day < days_of_months (suc n) → Holds day (begun_by day n)
unfolding begun_by days_of_months
holds day zero h = record { begun = omega arith; going = h }
holds day (suc n) h = go (nat_le (days_of_months (suc n)) day) refl (λ lt. holds day n lt)
  where
    go : (b : Bool) → nat_le (days_of_months (suc n)) day ≡ b → (day < days_of_months (suc n) → Holds day (begun_by day n)) → Holds day (if b then suc (begun_by day n) else begun_by day n)
    go true e below =
        let le : days_of_months (suc n) ≤ day = grind (arith, nat_tests, e) in
        let earlier = days_mono n (suc n) (omega arith) in
        let all = all_begun day n (omega arith) in
        rw all (record { begun = le; going = h })
    go false e below = let lt : day < days_of_months (suc n) = grind (arith, nat_tests, e) in below lt

pub of_day : (day : ℕ) → Holds day (begun_by day day)
of_day day = holds day day (omega (arith, days-most (suc day)))

pub is_month : (at : ℕ) → IsMonthOf at (month_at at)
unfolding month_of_day
is_month at =
    let day = at / 86400 in
    let h = of_day day in
    let here : 23640 + begun_by day day - 23640 ≡ begun_by day day = omega arith in
    let next : 23640 + begun_by day day + 1 - 23640 ≡ suc (begun_by day day) = omega arith in
    (omega arith, rw here h.begun, rw next h.going)

-- it is the month that the code finds
pub month_is : (at month : ℕ) → IsMonthOf at month → month ≡ month_at at
month_is at month h = IsMonthOf_only at month (month_at at) h (is_month at)

pub month_mono : (earlier later : ℕ) → earlier ≤ later → month_at earlier ≤ month_at later
month_mono earlier later h = IsMonthOf_mono earlier later (month_at earlier) (month_at later) h (is_month earlier) (is_month later)

-- a month has begun at a moment where it is no later than the moment's month
pub begun_is : (month at : ℕ) → nat_le (first_day month) (at / 86400) ≡ nat_le month (month_at at)
begun_is month at =
    let is = is_month at in
    grind (arith, nat_tests, is.1, is.2, days_mono (month - 23640) (month_at at - 23640), days_mono (month_at at + 1 - 23640) (month - 23640))

-- the hour of a moment begins in the moment's month
pub hour_month : (at : ℕ) → month_of_hour (at / 3600) ≡ month_at at
hour_month at = let same : at / 3600 * 3600 / 86400 ≡ at / 86400 = omega arith in ap month_of_day same
