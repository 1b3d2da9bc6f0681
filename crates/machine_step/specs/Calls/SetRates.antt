-- The operator sets the rates from a month on that hasn't begun.
use Rattle.std.specs.Prelude.{ℕ, Bool, [], ◌∷◌, ◌==◌, ◌&&◌, nat_le, length, if◌then◌else◌}
use Rattle.sat_base.specs.declared.limits.TheConstants as limits
use Rattle.sat_base.specs.declared.month.Month.{Month}
use Rattle.sat_base.specs.declared.rates.Rates.{Rates}
use Rattle.sat_base.specs.declared.rates.Tariff.{Tariff}
use Rattle.sat_base.specs.Ranks.{tariff_rank}
use Rattle.rows.specs.Rows.{row_at}
use Rattle.month_pay.specs.Months.{month_at}
use Rattle.machine_calls.specs.declared.change.RecChange.TheVariants as changes
use Rattle.machine_calls.specs.declared.reply.Reply.TheVariants as replies
use Rattle.machine_calls.specs.declared.refusal.Refusal.TheVariants as refusals
use Rattle.machine_calls.specs.declared.refusal.TableName.TheVariants as names
use Rattle.machine_step.specs.Tables.{Tables}
use Rattle.machine_step.specs.Plans.{timed}
use Rattle.machine_step.specs.Outcome.{Outcome, unchanged, unless, accepted, if_found}

abbrev pub same_rates : Rates → Rates → Bool
same_rates a b = (a.get == b.get) && ((a.audit == b.audit) && ((a.repair == b.repair) && (a.storage == b.storage)))

abbrev pub rates_set : Tables → ℕ → Month → Rates → Outcome
rates_set t time month rates = accepted (timed t.marks time) (changes.Tariff (record { from = month; rates = rates }) ∷ []) (replies.RatesSet month)

-- a month without rates of its own
abbrev pub set_rates_first : Tables → ℕ → Month → Rates → Outcome
set_rates_first t time month rates =
    unless (nat_le month.0 (month_at time)) (refusals.MonthBegun (record { 0 = month_at time }))
    (unless (nat_le limits.TARIFFS (length t.tariffs)) (refusals.TableFull names.Tariffs) (rates_set t time month rates))

-- other rates of a month that has some
abbrev pub set_rates_again : Tables → ℕ → Month → Rates → Tariff → Outcome
set_rates_again t time month rates found =
    if same_rates found.rates rates then unchanged (replies.RatesSet month)
    else unless (nat_le month.0 (month_at time)) (refusals.MonthBegun (record { 0 = month_at time })) (rates_set t time month rates)

abbrev pub set_rates : Tables → ℕ → Month → Rates → Outcome
set_rates t time month rates =
    if_found (row_at tariff_rank t.tariffs month.0) (set_rates_first t time month rates) (set_rates_again t time month rates)
