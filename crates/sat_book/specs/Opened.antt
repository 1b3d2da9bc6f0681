-- Rows that a book is opened with, of whatever version: what becomes of them, and which is the first that holds no record.
use Rattle.std.specs.Prelude.{◌≡◌, ◌≢◌, ◌⊎◌, ℕ, ◌<◌, List, [], ◌∷◌, ◌++◌, map, slice_get, Option, Some, None, option_to_list}
use Rattle.sat_base.specs.declared.rows.Row.{Row}
use Rattle.sat_base.specs.declared.rows.Change.{Change}
use Rattle.sat_base.specs.declared.rows.Change.TheVariants.{Put}
use Rattle.sat_base.specs.Rows.{AreInOrder, AreThe, rows_of, changed}
use Rattle.record_kinds.specs.declared.rec.Rec.{Rec}
use Rattle.record_rows.specs.declared.upgrading.Upgraded.{Upgraded}
use Rattle.record_rows.specs.declared.version.Version.{Version}
use Rattle.record_rows.specs.declared.version.TheConstants.Version.{LATEST}
use Rattle.record_rows.specs.Reading.{IsRowOf}
use Rattle.record_rows.specs.Spelling.{row_of}
use Rattle.record_rows.specs.Versions.{HoldsNone, HoldsSome, IsVersion, UpgradesTo}
use Rattle.machine_calls.specs.declared.parts.Parts0.{Parts0}
use Rattle.machine_store.specs.declared.opening.CoreErr.{CoreErr}
use Rattle.machine_store.specs.declared.opening.CoreErr.TheVariants as found
use Rattle.sat_book.specs.declared.opening.OpenErr.{OpenErr}
use Rattle.sat_book.specs.declared.opening.OpenErr.TheVariants as errs
use Rattle.sat_book.specs.declared.sorted.Sorted.{Sorted}
use Rattle.sat_book.specs.ByKind.{AreRecordsOf, HasNoneBehind, listed}
use Rattle.sat_book.specs.TableRows.{joined}

-- what was found of tables, as it is told
abbrev pub told_of : CoreErr → OpenErr
told_of (found.Rule rule kind id) = errs.BadTables rule kind id
told_of found.NoMemory = errs.NoMemory

-- ---- rows of an earlier version

-- where a row becomes another, the row of its record is put, and that of the record that it implies
abbrev pub puts : Option Upgraded → List Change
puts None = []
puts (Some up) = Put (row_of up.rec) ∷ map (λ rec. Put (row_of rec)) (option_to_list up.also)

-- what becomes of each row
abbrev pub EachUpgrades : Version → List Row → List (Option Upgraded) → Type 0
EachUpgrades version [] [] = Unit {0}
EachUpgrades version (row ∷ rows) (up ∷ ups) = UpgradesTo version row up × EachUpgrades version rows ups
EachUpgrades version _ _ = ⊥

-- the changes of all rows, one behind the other
pub record AreChanges (version : Version) (rows : List Row) (changes : List Change) : Type 0 where
  pub ups : List (Option Upgraded)
  pub each : EachUpgrades version rows ups
  pub are : changes ≡ joined (map puts ups)

-- rows of an earlier version become these, by these changes
pub record IsUpgraded (loaded : List Row) (changes : List Change) (rows : List Row) : Type 0 where
  pub ordered : AreInOrder loaded
  pub version : Version
  pub is_of : IsVersion version (slice_get loaded 0)
  pub is_earlier : version ≢ LATEST
  pub changes_are : AreChanges version loaded changes
  pub rows_are : AreThe (changed changes (rows_of loaded)) rows

-- those of the latest stay as they are
pub record IsSame (loaded : List Row) (changes : List Change) (rows : List Row) : Type 0 where
  pub is_of : IsVersion LATEST (slice_get loaded 0)
  pub none : changes ≡ []
  pub rows_are : rows ≡ loaded

abbrev pub Becomes : List Row → List Change → List Row → Type 0
Becomes loaded changes rows = IsSame loaded changes rows ⊎ IsUpgraded loaded changes rows

-- the records of rows, or of what becomes of them by these changes
pub record AreSorted (loaded : List Row) (sorted : Sorted) : Type 0 where
  pub becomes : Becomes loaded sorted.changes.items sorted.rows
  pub records : AreRecordsOf sorted.rows sorted.parts
  pub ordered : AreInOrder sorted.rows
  pub made : rows_of sorted.rows ≡ changed sorted.changes.items (rows_of loaded)

-- ---- the first row that holds no record

-- the first row that holds no record of the version has this kind and this id
pub record IsFirstIn (version : Version) (rows : List Row) (kind : ℕ) (id : List ℕ) : Type 0 where
  pub place : ℕ
  pub row : Row
  pub stands : slice_get rows place ≡ Some row
  pub its_kind : kind ≡ row.kind
  pub its_id : id ≡ row.id
  pub none : HoldsNone version row
  pub others : (i : ℕ) (other : Row) → i < place → slice_get rows i ≡ Some other → HoldsSome version other

-- and the version is that of the rows
pub record IsFirstBad (loaded : List Row) (kind : ℕ) (id : List ℕ) : Type 0 where
  pub ordered : AreInOrder loaded
  pub version : Version
  pub is_of : IsVersion version (slice_get loaded 0)
  pub first : IsFirstIn version loaded kind id

-- an error names this row, unless memory ran out
abbrev pub Names : Row → OpenErr → Type 0
Names row (errs.BadRow kind id) = (kind ≡ row.kind) × (id ≡ row.id)
Names row errs.NoMemory = Unit {0}
Names row errs.Fault = ⊥
Names row (errs.BadTables rule kind id) = ⊥

-- and where it does, the row holds no record of the version
abbrev pub Refuses : Version → Row → OpenErr → Type 0
Refuses version row (errs.BadRow kind id) = (kind ≡ row.kind) × (id ≡ row.id) × HoldsNone version row
Refuses version row errs.NoMemory = Unit {0}
Refuses version row errs.Fault = ⊥
Refuses version row (errs.BadTables rule kind id) = ⊥

-- an error names the first row that holds none
abbrev pub NamesFirstIn : Version → List Row → OpenErr → Type 0
NamesFirstIn version rows (errs.BadRow kind id) = IsFirstIn version rows kind id
NamesFirstIn version rows errs.NoMemory = Unit {0}
NamesFirstIn version rows errs.Fault = ⊥
NamesFirstIn version rows (errs.BadTables rule kind id) = ⊥

abbrev pub NamesFirst : List Row → OpenErr → Type 0
NamesFirst loaded (errs.BadRow kind id) = IsFirstBad loaded kind id
NamesFirst loaded errs.NoMemory = Unit {0}
NamesFirst loaded errs.Fault = ⊥
NamesFirst loaded (errs.BadTables rule kind id) = ⊥

-- ---- rows of the latest version, one by one

-- there is no record behind the kind of the first row
abbrev pub StandBehind : Parts0 → List Row → Type 0
StandBehind parts [] = Unit {0}
StandBehind parts (row ∷ rest) = HasNoneBehind row.kind parts

-- the record of the row stands behind those of the parts, and none of a later kind
pub record AddsRow (row : Row) (parts result : Parts0) : Type 0 where
  pub rec : Rec
  pub is : IsRowOf row rec
  pub all : listed result ≡ listed parts ++ rec ∷ []
  pub last : HasNoneBehind row.kind result

-- ---- rows of an earlier version, one by one

-- the changes of the row stand behind others
abbrev pub AddsChanges : Version → Row → List Change → List Change → Type 0
AddsChanges version row old new = (up : Option Upgraded) × UpgradesTo version row up × (new ≡ old ++ puts up)
