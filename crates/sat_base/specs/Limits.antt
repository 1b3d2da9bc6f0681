-- The bounds of records, beside the rules that tie them to one another. What isn't bounded here is bounded by its type.
use Rattle.std.specs.Prelude.{ℕ, ◌≤◌, length}
use Rattle.sat_base.specs.Moments.{IsMoment}
use Rattle.sat_base.specs.declared.limits.TheConstants as limits
use Rattle.sat_base.specs.declared.settings.Caps.{Caps}
use Rattle.sat_base.specs.declared.settings.Marks.{Marks}
use Rattle.sat_base.specs.declared.requests.Asked.{Asked}
use Rattle.sat_base.specs.declared.requests.Asked.TheVariants as asks
use Rattle.sat_base.specs.declared.requests.Done.{Done}
use Rattle.sat_base.specs.declared.requests.Done.TheVariants as dones
use Rattle.sat_base.specs.declared.requests.Kept.{Kept}
use Rattle.sat_base.specs.declared.rates.Rates.{Rates}
use Rattle.sat_base.specs.declared.rates.Tariff.{Tariff}

-- from January 1970 to December 4147
abbrev pub IsMonthWithin : ℕ → Type 0
IsMonthWithin month = (limits.FIRST_MONTH ≤ month) × (month ≤ limits.LAST_MONTH)

pub record AreCapsWithin (caps : Caps) : Type 0 where
  pub nodes : (1 ≤ caps.nodes) × (caps.nodes ≤ limits.NODES)
  pub customers : (1 ≤ caps.customers) × (caps.customers ≤ limits.CUSTOMERS)
  pub segments : (1 ≤ caps.segments) × (caps.segments ≤ limits.SEGMENTS)
  pub settled : (1 ≤ caps.settled) × (caps.settled ≤ limits.SETTLED)
  pub tallies : (1 ≤ caps.tallies) × (caps.tallies ≤ limits.TALLIES)
  pub statements : (1 ≤ caps.statements) × (caps.statements ≤ limits.STATEMENTS)

pub record AreMarksWithin (marks : Marks) : Type 0 where
  pub time : IsMoment marks.time
  pub month : IsMonthWithin marks.month.0
  pub hour : marks.hour.0 ≤ limits.LAST_HOUR

abbrev pub IsAskedWithin : Asked → Type 0
IsAskedWithin (asks.Commit segment indexes) = length indexes ≤ limits.PLACES
IsAskedWithin _ = Unit {0}

abbrev pub IsDoneWithin : Done → Type 0
IsDoneWithin (dones.Offer offer) = length offer.places ≤ limits.PLACES
IsDoneWithin _ = Unit {0}

-- lists in requests and replies have at most 128 items
abbrev pub IsKeptWithin : Kept → Type 0
IsKeptWithin kept = IsAskedWithin kept.asked × IsDoneWithin kept.done

pub record AreRatesWithin (rates : Rates) : Type 0 where
  pub get : rates.get ≤ limits.RATE
  pub audit : rates.audit ≤ limits.RATE
  pub repair : rates.repair ≤ limits.RATE
  pub storage : rates.storage ≤ limits.RATE

pub record IsTariffWithin (tariff : Tariff) : Type 0 where
  pub from : IsMonthWithin tariff.from.0
  pub rates : AreRatesWithin tariff.rates
