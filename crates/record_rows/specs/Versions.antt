-- What the rows of a store of each version hold, and what becomes of them in the latest.
use Rattle.std.specs.Prelude.{◌≡◌, ◌≢◌, ℕ, Option, Some, None, IfSome, IsSomeAnd, MatchOption}
use Rattle.sat_base.specs.declared.rows.Row.{Row}
use Rattle.sat_base.specs.declared.settings.Settings.{Settings}
use Rattle.sat_base.specs.declared.rates.Rates.{Rates}
use Rattle.record_rows.specs.declared.kind.RowErr.{RowErr}
use Rattle.record_rows.specs.declared.kind.RowErr.TheVariants as no
use Rattle.record_kinds.specs.declared.rec.Rec.{Rec}
use Rattle.record_rows.specs.declared.upgrading.Upgraded.{Upgraded}
use Rattle.record_rows.specs.declared.version.Version.{Version}
use Rattle.record_rows.specs.declared.version.Version.TheVariants as versions
use Rattle.record_rows.specs.Fits.{Fits}
use Rattle.record_rows.specs.Reading.{IsKind, IsNoKind, IsRowOf}
use Rattle.record_rows.specs.Version1.{IsOldRow, IsRecordIn1, Implies1, IsKind1, IsNoKind1}

-- a store of version 1 begins with its settings
abbrev pub IsOldFirst : Option Row → Type 0
IsOldFirst first = IsSomeAnd first (λ row. (settings : Settings) × (rates : Rates) × IsOldRow row settings rates)

-- a store that begins with this row, or has none, is of this version
abbrev pub IsVersion : Version → Option Row → Type 0
IsVersion versions.One first = IsOldFirst first
IsVersion versions.Two first = IsOldFirst first → ⊥

-- ---- what a row holds

-- the row's record
abbrev pub IsRecordIn : Version → Row → Rec → Type 0
IsRecordIn versions.One row rec = IsRecordIn1 row rec
IsRecordIn versions.Two row rec = IsRowOf row rec

-- a record that the row implies beside its own
abbrev pub Implies : Version → Row → Rec → Type 0
Implies versions.One row rec = Implies1 row rec
Implies versions.Two row rec = ⊥

abbrev pub HoldsSome : Version → Row → Type 0
HoldsSome version row = (rec : Rec) × IsRecordIn version row rec

abbrev pub HoldsNone : Version → Row → Type 0
HoldsNone version row = (rec : Rec) → IsRecordIn version row rec → ⊥

-- ---- what becomes of it

-- it is one of the latest version, and implies nothing
pub record Stays (version : Version) (row : Row) : Type 0 where
  pub rec : Rec
  pub record_in : IsRecordIn version row rec
  pub same : IsRowOf row rec
  pub no_more : (also : Rec) → Implies version row also → ⊥

-- it becomes that of its record, with that of the record that it implies
pub record IsReplaced (version : Version) (row : Row) (up : Upgraded) : Type 0 where
  pub record_in : IsRecordIn version row up.rec
  pub also : MatchOption up.also ((also : Rec) → Implies version row also → ⊥) (Implies version row)
  pub other : IsRowOf row up.rec → ⊥

-- what it becomes is within the bounds
abbrev pub AreWithin : Upgraded → Type 0
AreWithin up = Fits up.rec × IfSome up.also Fits

abbrev pub UpgradesTo : Version → Row → Option Upgraded → Type 0
UpgradesTo version row None = Stays version row
UpgradesTo version row (Some up) = IsReplaced version row up

-- ---- why it holds no record

abbrev pub IsKindIn : Version → ℕ → Type 0
IsKindIn versions.One kind = IsKind1 kind
IsKindIn versions.Two kind = IsKind kind

abbrev pub IsNoKindIn : Version → ℕ → Type 0
IsNoKindIn versions.One kind = IsNoKind1 kind
IsNoKindIn versions.Two kind = IsNoKind kind

-- some record's row of its kind has its id
pub record HasIdIn (version : Version) (row : Row) : Type 0 where
  pub other : Row
  pub rec : Rec
  pub record_in : IsRecordIn version other rec
  pub same_kind : other.kind ≡ row.kind
  pub same_id : other.id ≡ row.id

-- none has
abbrev pub HasNoIdIn : Version → Row → Type 0
HasNoIdIn version row = (other : Row) (rec : Rec) → IsRecordIn version other rec → other.kind ≡ row.kind → other.id ≢ row.id

-- none has its body
abbrev pub HasNoBodyIn : Version → Row → Type 0
HasNoBodyIn version row = (other : Row) (rec : Rec) → IsRecordIn version other rec → other.kind ≡ row.kind → other.body ≢ row.body

-- the first cause that holds
abbrev pub IsCause : Version → Row → RowErr → Type 0
IsCause version row no.Kind = IsNoKindIn version row.kind
IsCause version row no.Id = IsKindIn version row.kind × HasNoIdIn version row
IsCause version row no.Body = HasIdIn version row × HasNoBodyIn version row
IsCause version row no.NoMemory = Unit {0}
