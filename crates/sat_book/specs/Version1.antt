-- What opening says of rows of version 1, in the words of settings and tariffs.
use Rattle.std.specs.Prelude.{◌≡◌, ◌⊎◌, ℕ, ◌<◌, List, [], ◌∷◌, ◌++◌, slice_get, Some}
use Rattle.sat_base.specs.declared.kinds.TheConstants as kinds
use Rattle.sat_base.specs.declared.rates.Tariff.{Tariff}
use Rattle.sat_base.specs.declared.rows.Row.{Row}
use Rattle.sat_base.specs.declared.rows.Change.{Change}
use Rattle.sat_base.specs.declared.rows.Change.TheVariants.{Put}
use Rattle.sat_base.specs.declared.settings.Settings.{Settings}
use Rattle.sat_base.specs.Limits.{AreRatesWithin}
use Rattle.record_kinds.specs.declared.rec.Rec.{Rec}
use Rattle.record_kinds.specs.declared.rec.Rec.TheVariants as records
use Rattle.record_rows.specs.Fits.{Fits, SettingsFit}
use Rattle.record_rows.specs.Spelling.{row_of}
use Rattle.record_rows.specs.Version1.{old_row}

-- the rows begin with settings of version 1
pub record AreOld (loaded : List Row) (settings : Settings) (tariff : Tariff) (rest : List Row) : Type 0 where
  pub settings_fit : SettingsFit settings
  pub rates_fit : AreRatesWithin tariff.rates
  pub from : tariff.from ≡ settings.first_month
  pub are : loaded ≡ old_row settings tariff.rates ∷ rest

abbrev pub IsOldFirst : List Row → Type 0
IsOldFirst loaded = (settings : Settings) × (tariff : Tariff) × (rest : List Row) × AreOld loaded settings tariff rest

-- what becomes of the rows: settings of version 2, the other rows, and the tariff
abbrev pub upgraded : Settings → Tariff → List Row → List Row
upgraded settings tariff rest = row_of (records.Settings settings) ∷ rest ++ row_of (records.Tariff tariff) ∷ []

-- the changes that make them so
abbrev pub upgrades : Settings → Tariff → List Change
upgrades settings tariff = Put (row_of (records.Settings settings)) ∷ Put (row_of (records.Tariff tariff)) ∷ []

pub record IsUpgraded1 (loaded : List Row) (changes : List Change) (rows : List Row) : Type 0 where
  pub settings : Settings
  pub tariff : Tariff
  pub rest : List Row
  pub old : AreOld loaded settings tariff rest
  pub changes_are : changes ≡ upgrades settings tariff
  pub rows_are : rows ≡ upgraded settings tariff rest

-- a row is that of a record, or the settings of version 1, which stand first; and beside these it is no tariff
abbrev pub IsRecord : Row → Type 0
IsRecord row = (rec : Rec) × Fits rec × (row ≡ row_of rec)

pub record IsTaken (loaded : List Row) (place : ℕ) (row : Row) : Type 0 where
  pub is_record : IsRecord row ⊎ ((place ≡ 0) × IsOldFirst loaded)
  pub no_tariff : IsOldFirst loaded → row.kind ≡ kinds.TARIFF → ⊥

-- the first row that isn't taken has this kind and this id
pub record IsFirstBad1 (loaded : List Row) (kind : ℕ) (id : List ℕ) : Type 0 where
  pub place : ℕ
  pub row : Row
  pub stands : slice_get loaded place ≡ Some row
  pub its_kind : row.kind ≡ kind
  pub its_id : row.id ≡ id
  pub bad : IsTaken loaded place row → ⊥
  pub others : (i : ℕ) (other : Row) → i < place → slice_get loaded i ≡ Some other → IsTaken loaded i other
