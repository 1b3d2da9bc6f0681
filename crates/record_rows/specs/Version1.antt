-- Rows of version 1: settings were spelled without a version and with the rates of every month, and there were no tariffs.
use Rattle.std.specs.Prelude.{◌≡◌, ℕ, ◌<◌, ◌≤◌, ◌⊎◌, List, []}
use Rattle.sat_base.specs.declared.kinds.TheConstants as kinds
use Rattle.sat_base.specs.declared.rows.Row.{Row}
use Rattle.sat_base.specs.declared.settings.Settings.{Settings}
use Rattle.sat_base.specs.declared.rates.Rates.{Rates}
use Rattle.sat_base.specs.declared.rates.Tariff.{Tariff}
use Rattle.sat_base.specs.Limits.{AreRatesWithin}
use Rattle.record_kinds.specs.declared.rec.Rec.{Rec}
use Rattle.record_kinds.specs.declared.rec.Rec.TheVariants as rec
use Rattle.record_rows.specs.Settings.{old_settings_bytes}
use Rattle.record_rows.specs.Fits.{SettingsFit}
use Rattle.record_rows.specs.Reading.{IsRowOf}

abbrev pub old_settings_body : Settings → Rates → List ℕ
old_settings_body s rates =
    old_settings_bytes s.secret s.scheme.k s.scheme.m s.scheme.o s.scheme.n s.scheme.share s.vet s.fresh rates s.caps s.first_month.0

abbrev pub old_row : Settings → Rates → Row
old_row settings rates = record { kind = kinds.SETTINGS; id = []; body = old_settings_body settings rates }

-- the row is that of settings and rates within the bounds
pub record IsOldRow (row : Row) (settings : Settings) (rates : Rates) : Type 0 where
  pub settings_fit : SettingsFit settings
  pub rates_fit : AreRatesWithin rates
  pub is : row ≡ old_row settings rates

-- its rates, as a tariff from the first month on
abbrev pub first_tariff : Settings → Rates → Tariff
first_tariff settings rates = record { from = settings.first_month; rates = rates }

-- the row's record
abbrev pub IsRecordIn1 : Row → Rec → Type 0
IsRecordIn1 row (rec.Settings settings) = (rates : Rates) × IsOldRow row settings rates
IsRecordIn1 row (rec.Tariff tariff) = ⊥
IsRecordIn1 row other = IsRowOf row other

-- what a row implies beside its record: settings their tariff
abbrev pub Implies1 : Row → Rec → Type 0
Implies1 row (rec.Tariff tariff) = (settings : Settings) × (rates : Rates) × IsOldRow row settings rates × (tariff ≡ first_tariff settings rates)
Implies1 row other = ⊥

-- records had the kinds 1 to 15
abbrev pub IsKind1 : ℕ → Type 0
IsKind1 kind = (kinds.SETTINGS ≤ kind) × (kind < kinds.TARIFF)

abbrev pub IsNoKind1 : ℕ → Type 0
IsNoKind1 kind = (kind < kinds.SETTINGS) ⊎ (kinds.TARIFF ≤ kind)
