-- The rows of the one table in files that were opened: the rowids rise, since the tree is laid out as a
-- table, and the rows have its columns, since the database obeys its schema.
use Rattle.std.proofs.Common.{◌≡◌, inl, inr, ℕ, ℤ, pos, ◌+◌, ◌*◌, ◌<◌, ◌≤◌, true, false, not, ◌&&◌, IsTrue, None, List, [], ◌∷◌, drop, refl, sym, ap, subst, ◌∙◌, arith}
use Rattle.std.specs.List.{AllZip}
use Rattle.std.proofs.Math.Logic.{∥∥₁_elim}
use Rattle.std.proofs.lemmas.Bool.{and_parts, false≢true}
use Rattle.sqlite.specs.declared.types.Value.{Value}
use Rattle.sqlite.specs.declared.types.Value.TheVariants.{Null, Int, Real, Text, Blob}
use Rattle.sqlite.specs.Order.{Row, column}
use Rattle.sqlite.specs.Tree.{Trees, rowid}
use Rattle.sqlite.specs.Effect.{Database, IsDatabase}
use Rattle.sqlite.specs.Files.{AreFoundIn}
use Rattle.sqlite_trees.specs.Objects.{catalog_tree, number_in}
use Rattle.sqlite_trees.specs.Props.{IsShaped-prop}
use Rattle.sqlite_trees.specs.View.{IsShaped, IsOrdered, is_int}
use Rattle.sqlite_trees.specs.declared.store.Shape.{Shape}
use Rattle.sqlite_trees.specs.declared.store.Shape.TheVariants as shape
use Rattle.sqlite_wal.specs.Recovery.{Image}
use Rattle.sqlite_store.specs.declared.catalog.Wanted.{Wanted}
use Rattle.sqlite_store.specs.Catalog.{shape_at}
use Rattle.sqlite_store.specs.Listing.{listed, listed_from, all_shapes, all_trees, file_trees}
use Rattle.sqlite_store.proofs.ListingLemmas.{all_ordered}
use Rattle.sqlite_catalog.specs.Listing.{IsTableRow, is_table_row, IsSound}
use Rattle.sqlite_schema.specs.Rules.{are_typed, are_present, is_of}
use Rattle.sqlite_schema.specs.declared.schema.Kind.TheVariants as kind
use Rattle.sqlite_schema.specs.declared.schema.Constraint.TheVariants.{Datatype, NotNull}
use Rattle.sqlite_sql.specs.Ops.{is_null}
use Rattle.sqlite_rules.specs.Lists.{Has}
use Rattle.sqlite_rules.proofs.ListLemmas.{has_either, has_filtered, all_has, all_from}
use Rattle.keeper_sqlite.specs.Table.{record_table, record_schema}
use Rattle.keeper_sqlite.specs.Records.{IsRecord, Holds, rows_in}
use Rattle.keeper_sqlite.specs.Opened.{HaveByteKinds}

-- a listed tree has a rowid of its own, from the first number on
listed_later : (from : ℕ) (schema : List Wanted) (r : Row) → Has (listed_from from schema) r → (n : ℕ) × (rowid r ≡ Int (pos (n + 1))) × (from ≤ n)
listed_later from [] r h = absurd h
listed_later from (w ∷ schema) r h = elim (has_either (listed from w w.shape) (listed_from (from + 1) schema) r h) [
  | inl here ↦ head w.shape here
  | inr more ↦ let it = listed_later (from + 1) schema r more in (it.0, it.1, omega (arith, it.2))
]
  where
    head : (s : Shape) → Has (listed from w s) r → (n : ℕ) × (rowid r ≡ Int (pos (n + 1))) × (from ≤ n)
    head shape.Absent k = absurd k
    head shape.Table (inl is) = (from, ap rowid is, omega arith)
    head shape.Table (inr none) = absurd none
    head (shape.Index o) (inl is) = (from, ap rowid is, omega arith)
    head (shape.Index o) (inr none) = absurd none
    head shape.Pageless (inl is) = (from, ap rowid is, omega arith)
    head shape.Pageless (inr none) = absurd none
    head shape.FrozenTable (inl is) = (from, ap rowid is, omega arith)
    head shape.FrozenTable (inr none) = absurd none
    head (shape.FrozenIndex o) (inl is) = (from, ap rowid is, omega arith)
    head (shape.FrozenIndex o) (inr none) = absurd none

-- the first tree, where it is listed as a table, has a table's shape
listed_as_table : (schema : List Wanted) (r : Row) → Has (listed_from 0 schema) r → rowid r ≡ Int (pos 1) → number_in (column r 5) ≡ 1 → shape_at schema 0 ≡ shape.Table
listed_as_table [] r h id code = absurd h
listed_as_table (w ∷ schema) r h id code = elim (has_either (listed 0 w w.shape) (listed_from 1 schema) r h) [
  | inl here ↦ head w.shape here
  | inr more ↦
      let it = listed_later 1 schema r more in
      let same : ◌≡◌ {A = Value} (Int (pos (it.0 + 1))) (Int (pos 1)) = sym it.1 ∙ id in
      let ints : ◌≡◌ {A = ℤ} (pos (it.0 + 1)) (pos 1) = cc in
      let nats : it.0 + 1 ≡ 1 = cc in
      absurd (omega (arith, nats, it.2))
]
  where
    head : (s : Shape) → Has (listed 0 w s) r → s ≡ shape.Table
    head shape.Absent k = absurd k
    head shape.Table k = refl
    head (shape.Index o) (inl is) = absurd (let e : 2 + 8 * o.digits ≡ 1 = ap (λ (x : Row). number_in (column x 5)) (sym is) ∙ code in omega (arith, e))
    head (shape.Index o) (inr none) = absurd none
    head shape.Pageless (inl is) = absurd (let e : 3 ≡ 1 = ap (λ (x : Row). number_in (column x 5)) (sym is) ∙ code in omega (arith, e))
    head shape.Pageless (inr none) = absurd none
    head shape.FrozenTable (inl is) = absurd (let e : 4 ≡ 1 = ap (λ (x : Row). number_in (column x 5)) (sym is) ∙ code in omega (arith, e))
    head shape.FrozenTable (inr none) = absurd none
    head (shape.FrozenIndex o) (inl is) = absurd (let e : 5 + 8 * o.digits ≡ 1 = ap (λ (x : Row). number_in (column x 5)) (sym is) ∙ code in omega (arith, e))
    head (shape.FrozenIndex o) (inr none) = absurd none

first_listed : (rows : List Row) → AllZip IsTableRow rows (record_table ∷ []) → (r : Row) × Has rows r × IsTableRow r record_table
first_listed [] h = absurd h
first_listed (r ∷ rows) h = (r, inl refl, h.0)

-- the shape that a store gives the first tree is that of its listing
shaped : (schema : List Wanted) (trees : Trees) → IsOrdered (all_shapes schema) trees → IsShaped (shape_at schema 0) (trees 0)
unfolding all_shapes
shaped schema trees ordered = ordered 0

catalog_is : (size : ℕ) (schema : List Wanted) (pages : _) → file_trees size schema pages catalog_tree ≡ listed_from 0 schema
unfolding all_trees
catalog_is size schema pages = refl

-- so the rowids rise, and each is an integer
pub is_table : (image : Image) (trees : Trees) → AreFoundIn image trees → IsSound record_schema trees → IsShaped shape.Table (trees 0)
is_table image trees (inr nothing) sound = subst (IsShaped shape.Table) (sym (nothing.1.0 0 (omega arith))) (tt, tt)
is_table image trees (inl found) sound =
    let size = found.0 in
    let pages = found.1 in
    let wanted = found.2 in
    let same = found.5 in
    ∥∥₁_elim found.4 (IsShaped-prop shape.Table (trees 0)) (λ ours.
    let ordered = subst (λ (t : Trees). IsOrdered (all_shapes wanted) t) (sym same) (all_ordered ours.file.db _) in
    let row = first_listed _ sound.lists.listed.tables in
    let there = has_filtered is_table_row (trees catalog_tree) row.0 row.1 in
    let listed_there = subst (λ (rs : List Row). Has rs row.0) (ap (λ (t : Trees). t catalog_tree) same ∙ catalog_is size wanted pages) there.0 in
    let is = listed_as_table wanted row.0 listed_there row.2.described.id row.2.described.shape_is in
    subst (λ (s : Shape). IsShaped s (trees 0)) is (shaped wanted trees ordered))

an_int : (v : Value) → IsTrue (is_int v) → (n : ℤ) × (v ≡ Int n)
an_int (Int n) h = (n, refl)
an_int Null h = absurd (false≢true h)
an_int (Real x) h = absurd (false≢true h)
an_int (Text t) h = absurd (false≢true h)
an_int (Blob b) h = absurd (false≢true h)

a_blob : (v : Value) → is_of kind.Blob v ≡ true → not (is_null v) ≡ true → (b : List ℕ) × (v ≡ Blob b)
a_blob (Blob b) h present = (b, refl)
a_blob Null h present = absurd (false≢true present)
a_blob (Int n) h present = absurd (false≢true h)
a_blob (Real x) h present = absurd (false≢true h)
a_blob (Text t) h present = absurd (false≢true h)

of_values : (a k i b : Value) (at : ℤ) (kind : ℕ) (id body : List ℕ) → a ≡ Int at → k ≡ Int (pos kind) → i ≡ Blob id → b ≡ Blob body → kind < 256 → IsRecord (a ∷ k ∷ i ∷ b ∷ [])
of_values a k i b at kind id body rowid_is kind_is id_is body_is small =
    record { rowid = at; kind = kind; id = id; body = body; is = rw (rowid_is, kind_is, id_is, body_is) refl; small = small }

-- a row that has the types of the columns, none of them NULL, and a kind that is a byte
is_record : (row : Row) → are_typed None 0 record_table.columns (drop 1 row) ≡ true → are_present None 0 record_table.columns row ≡ true → IsTrue (is_int (rowid row)) → (kind : ℕ) × (column row 1 ≡ Int (pos kind)) × (kind < 256) → IsRecord row
is_record [] typed present id small = absurd (false≢true id)
is_record (a ∷ []) typed present id small = absurd (false≢true present)
is_record (a ∷ k ∷ []) typed present id small = absurd (false≢true (and_parts _ _ present).1)
is_record (a ∷ k ∷ i ∷ []) typed present id small = absurd (false≢true (and_parts _ _ (and_parts _ _ present).1).1)
is_record (a ∷ k ∷ i ∷ b ∷ []) typed present id small =
    let typed_from_id = (and_parts (is_of kind.Integer k) (is_of kind.Blob i && (is_of kind.Blob b && true)) typed).1 in
    let typed_id = and_parts (is_of kind.Blob i) (is_of kind.Blob b && true) typed_from_id in
    let typed_body = and_parts (is_of kind.Blob b) true typed_id.1 in
    let there_from_id = (and_parts (not (is_null k)) (not (is_null i) && (not (is_null b) && true)) present).1 in
    let there_id = and_parts (not (is_null i)) (not (is_null b) && true) there_from_id in
    let there_body = and_parts (not (is_null b)) true there_id.1 in
    let rowid_is = an_int a id in
    let id_is = a_blob i typed_id.0 there_id.0 in
    let body_is = a_blob b typed_body.0 there_body.0 in
    of_values a k i b rowid_is.0 small.0 id_is.0 body_is.0 rowid_is.1 small.1 id_is.1 body_is.1 small.2
is_record (a ∷ k ∷ i ∷ b ∷ extra ∷ more) typed present id small =
    let from_id = (and_parts (is_of kind.Integer k) (is_of kind.Blob i && (is_of kind.Blob b && false)) typed).1 in
    let from_body = (and_parts (is_of kind.Blob i) (is_of kind.Blob b && false) from_id).1 in
    absurd (false≢true (and_parts (is_of kind.Blob b) false from_body).1)

pub holds_rows : (image : Image) (database : Database) → AreFoundIn image database.trees → IsDatabase database
    → database.schema ≡ record_schema → HaveByteKinds (database.trees 0) → Holds database (rows_in database.trees)
holds_rows image database found live has small =
    let sound = subst (λ s. IsSound s database.trees) has live in
    let table = is_table image database.trees found sound in
    let typed = (sound.obeys.rules Datatype).0 in
    let present = (sound.obeys.rules NotNull).0 in
    record {
      schema = has;
      records = (
        table.0,
        all_from IsRecord (database.trees 0) (λ row h.
            is_record row (and_parts _ _ (all_has _ (database.trees 0) row typed h)).0 (all_has _ (database.trees 0) row present h)
            (all_has _ (database.trees 0) row table.1 h) (all_has _ (database.trees 0) row small h)),
      );
      is = refl;
    }
