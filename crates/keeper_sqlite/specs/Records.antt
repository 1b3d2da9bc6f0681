-- The rows that the one table holds, and the database that holds them.
use Rattle.std.specs.Prelude.{◌≡◌, ℕ, ℤ, pos, negsuc, ◌<◌, List, [], ◌∷◌, map}
use Rattle.std.specs.List.{AllByRecursion}
use Rattle.std.specs.FinMap.{from_entries}
use Rattle.sqlite.specs.declared.types.Value.{Value}
use Rattle.sqlite.specs.declared.types.Value.TheVariants.{Null, Int, Real, Text, Blob}
use Rattle.sqlite.specs.Order.{Row, column, bytes}
use Rattle.sqlite.specs.Tree.{Trees, IsTable}
use Rattle.sqlite.specs.Effect.{Database}
use Rattle.sat_base.specs.Rows.{Key, Rows}
use Rattle.keeper_sqlite.specs.Table.{record_schema}

-- a row as the table keeps it, behind its rowid
abbrev pub stored : ℤ → ℕ → List ℕ → List ℕ → Row
stored rowid kind id body = Int rowid ∷ Int (pos kind) ∷ Blob id ∷ Blob body ∷ []

-- a row of the table whose kind is a byte
pub record IsRecord (row : Row) : Type 0 where
  pub rowid : ℤ
  pub kind : ℕ
  pub id : List ℕ
  pub body : List ℕ
  pub is : row ≡ stored rowid kind id body
  pub small : kind < 256

-- the rowids rise, and the kind of each row is a byte
abbrev pub AreRecords : List Row → Type 0
AreRecords rows = IsTable rows × AllByRecursion IsRecord rows

-- the kind that an integer stands for; whatever is no kind stands for 0
abbrev pub kind_in : Value → ℕ
kind_in Null = 0
kind_in (Int (pos n)) = n
kind_in (Int (negsuc n)) = 0
kind_in (Real x) = 0
kind_in (Text t) = 0
kind_in (Blob b) = 0

abbrev pub key_in : Row → Key
key_in row = (kind_in (column row 1), bytes (column row 2))

abbrev pub entry_in : Row → Key × List ℕ
entry_in row = (key_in row, bytes (column row 3))

-- what the first tree of a database holds, as bodies by their keys
abbrev pub rows_in : Trees → Rows
rows_in trees = from_entries (map entry_in (trees 0))

-- the schema is the one table alone, and the table holds these rows
pub record Holds (database : Database) (rows : Rows) : Type 0 where
  pub schema : database.schema ≡ record_schema
  pub records : AreRecords (database.trees 0)
  pub is : rows_in database.trees ≡ rows

-- a row that the query shows, which has no rowid, as the map has it
abbrev pub entry_shown : Row → Key × List ℕ
entry_shown row = ((kind_in (column row 0), bytes (column row 1)), bytes (column row 2))
