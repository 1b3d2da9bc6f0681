-- What setting rates changes fits.
use Rattle.std.proofs.Common.{◌≡◌, ℕ, ◌<◌, ◌≤◌, ◌^◌, false, length, Option, Some, None, is_some, refl, ap, arith}
use Rattle.std.specs.Prelude.{nat_le}
use Rattle.std.proofs.lemmas.Bool.Decides.{nat_tests}
use Rattle.sat_base.specs.declared.limits.TheConstants as limits
use Rattle.sat_base.specs.declared.month.Month.{Month}
use Rattle.sat_base.specs.declared.rates.Rates.{Rates}
use Rattle.sat_base.specs.declared.rates.Tariff.{Tariff}
use Rattle.sat_base.specs.Limits.{IsTariffWithin}
use Rattle.sat_base.specs.Ranks.{tariff_rank}
use Rattle.rows.specs.Rows.{row_at}
use Rattle.rows.specs.Slots.{with_row}
use Rattle.month_pay.specs.Months.{month_at}
use Rattle.month_pay.proofs.Steps.{same_rates}
use Rattle.machine_calls.specs.declared.reply.Reply.TheVariants as replies
use Rattle.machine_calls.specs.declared.refusal.Refusal.TheVariants as refusals
use Rattle.machine_calls.specs.declared.refusal.TableName.TheVariants as names
use Rattle.machine_step.specs.Tables.{Tables, ledger_of}
use Rattle.machine_step.specs.Outcome.{unchanged, unless}
use Rattle.machine_step.specs.Calls.SetRates.{same_rates as are_same, rates_set, set_rates_first, set_rates_again, set_rates}
use Rattle.machine_step.specs.Bounds.{IsValid}
use Rattle.machine_step.proofs.Outcomes.{unless-P, if-P, if_found-P}
use Rattle.machine_step.proofs.RowLemmas.{length-with_row, length-replaced}
use Rattle.machine_step.proofs.MarkLemmas.{month-open, month-first}
use Rattle.machine_step.proofs.TariffLemmas.{tariffs_few}
use Rattle.machine_step.proofs.Fits.{After, still, fitting, timed_fit}

module _ (t : Tables) (v : IsValid t) (time : ℕ) (le : t.marks.time ≤ time) (lt : time < 2 ^ 36) where
  fit_rates_set : (month : Month) (rates : Rates) → IsTariffWithin (record { from = month; rates = rates }) → nat_le month.0 (month_at time) ≡ false
      → length (with_row tariff_rank t.tariffs (record { from = month; rates = rates })) ≤ limits.TARIFFS → After t (rates_set t time month rates)
  fit_rates_set month rates within ahead few =
      let row : Tariff = record { from = month; rates = rates } in
      let late : month_at time < month.0 = grind (arith, nat_tests, ahead) in
      let begun = month-open t.setup t.marks time le v.rules.marks in
      let first = month-first t.setup t.marks v.rules.marks in
      fitting t v (rates_set t time month rates) (same_rates (ledger_of t) row (omega (arith, begun, late)))
      (timed_fit t v time le lt, (record { late = omega (arith, first, begun, late); few = few; within = within }, tt))

  pub fit_set_rates : (month : Month) (rates : Rates) → IsTariffWithin (record { from = month; rates = rates }) → After t (set_rates t time month rates)
  fit_set_rates month rates within =
      if_found-P (After t) (still t v) (row_at tariff_rank t.tariffs month.0) (set_rates_first t time month rates) (set_rates_again t time month rates)
      (unless-P (After t) (still t v) (nat_le month.0 (month_at time)) (refusals.MonthBegun (record { 0 = month_at time })) _ (λ ahead.
      unless-P (After t) (still t v) (nat_le limits.TARIFFS (length t.tariffs)) (refusals.TableFull names.Tariffs) (rates_set t time month rates) (λ room.
      let few : length t.tariffs < limits.TARIFFS = grind (arith, nat_tests, room) in
      fit_rates_set month rates within ahead (omega (arith, few, length-with_row tariff_rank t.tariffs (record { from = month; rates = rates }))))))
      (λ found at.
      if-P (After t) (still t v) (are_same found.rates rates) (unchanged (replies.RatesSet month)) _ (still t v (replies.RatesSet month))
      (unless-P (After t) (still t v) (nat_le month.0 (month_at time)) (refusals.MonthBegun (record { 0 = month_at time })) (rates_set t time month rates) (λ ahead.
      fit_rates_set month rates within ahead (omega (arith, length-replaced tariff_rank t.tariffs (record { from = month; rates = rates }) v.order.tariffs (ap is_some at), tariffs_few t.setup.first_month t.tariffs v.rules.tariffs)))))
