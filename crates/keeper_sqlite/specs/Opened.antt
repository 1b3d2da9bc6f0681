-- What a database that was found in files, with the one table alone, has still to meet to be told.
use Rattle.std.specs.Prelude.{◌≡◌, ℕ, pos, ◌<◌, List, map}
use Rattle.std.specs.List.{AllByRecursion}
use Rattle.sqlite.specs.declared.types.Value.TheVariants.{Int}
use Rattle.sqlite.specs.Order.{Row, column}
use Rattle.sqlite.specs.Tree.{Trees}
use Rattle.sat_base.specs.declared.rows.Row.{Row as Kept}
use Rattle.sat_base.specs.Rows.{entry, AreInOrder, AreThe}
use Rattle.sat_base.specs.Outside.{raised}
use Rattle.sat_base.specs.declared.keeper.Loaded.{Loaded}
use Rattle.sat_base.specs.declared.keeper.Loaded.TheVariants as loaded
use Rattle.keeper_sqlite.specs.Records.{entry_shown, rows_in}

-- the kind of each row is a byte
abbrev pub HaveByteKinds : List Row → Type 0
HaveByteKinds = AllByRecursion (λ row. (kind : ℕ) × (column row 1 ≡ Int (pos kind)) × (kind < 256))

-- the same of rows that the query shows, which have no rowid
abbrev pub ShowByteKinds : List Row → Type 0
ShowByteKinds = AllByRecursion (λ row. (kind : ℕ) × (column row 0 ≡ Int (pos kind)) × (kind < 256))

-- The query showed these rows of the one table: in order they are its rows, and where each of them has a byte
-- as its kind, so has each row of the table.
pub record IsShownOf (trees : Trees) (rows : List Row) : Type 0 where
  pub in_order : (list : List Kept) → AreInOrder list → map entry list ≡ map entry_shown rows → AreThe (rows_in trees) list
  pub kinds : ShowByteKinds rows → HaveByteKinds (trees 0)

-- a load that gave no rows: its fault was counted, or memory ran out
abbrev pub IsRefused : Loaded → ℕ → ℕ → Type 0
IsRefused (loaded.Rows list) before after = ⊥
IsRefused loaded.Fault before after = after ≡ raised before
IsRefused loaded.NoMemory before after = after ≡ before

-- The list has just the rows of the one table, each of which has a byte as its kind.
pub record IsListOf (trees : Trees) (list : List Kept) : Type 0 where
  pub rows : AreThe (rows_in trees) list
  pub kinds : HaveByteKinds (trees 0)
