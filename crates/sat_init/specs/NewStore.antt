-- The records of a new store, and its rows.
use Rattle.std.specs.Prelude.{ℕ, ◌/◌, List, [], ◌∷◌, map}
use Rattle.sat_base.specs.declared.month.Hour.{Hour}
use Rattle.sat_base.specs.declared.month.Month.{Month}
use Rattle.sat_base.specs.declared.rates.Tariff.{Tariff}
use Rattle.sat_base.specs.declared.rows.Change.{Change}
use Rattle.sat_base.specs.declared.rows.Change.TheVariants.{Put}
use Rattle.sat_base.specs.declared.rows.Row.{Row}
use Rattle.sat_base.specs.declared.settings.Marks.{Marks}
use Rattle.sat_base.specs.declared.settings.Settings.{Settings}
use Rattle.record_kinds.specs.declared.rec.Rec.TheVariants as records
use Rattle.record_rows.specs.Spelling.{row_of}
use Rattle.sat_init.specs.declared.setup.Setup.{Setup}

-- a month, as a record names it
abbrev pub month_named : ℕ → Month
month_named month = record { 0 = month }

abbrev pub settings_of : Setup → List ℕ → ℕ → Settings
settings_of setup secret month = record {
  secret = secret;
  scheme = setup.scheme;
  vet = setup.vet;
  fresh = setup.fresh;
  caps = setup.caps;
  first_month = month_named month;
}

-- nothing was drawn, closed or tallied so far
abbrev pub marks_at : ℕ → ℕ → Marks
marks_at now month = record {
  time = now;
  segment = 1;
  serial = 1;
  plan = 1;
  month = month_named month;
  hour = record { 0 = now / 3600 };
}

abbrev pub tariff_from : Setup → ℕ → Tariff
tariff_from setup month = record { from = month_named month; rates = setup.rates }

-- the rows of a store that is made with a secret, at a moment of a month
abbrev pub new_rows : Setup → List ℕ → ℕ → ℕ → List Row
new_rows setup secret now month =
    row_of (records.Settings (settings_of setup secret month))
    ∷ row_of (records.Marks (marks_at now month))
    ∷ row_of (records.Tariff (tariff_from setup month))
    ∷ []

abbrev pub puts : List Row → List Change
puts all = map (λ row. Put row) all
