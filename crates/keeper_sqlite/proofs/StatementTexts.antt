-- What the four texts mean.
use Rattle.std.proofs.Common.{◌≡◌, pos, negsuc, List, [], ◌∷◌, codes, false, None, Ok, refl}
use Rattle.sqlite_value.specs.declared.keys.Key.{Key}
use Rattle.sqlite.specs.declared.types.Value.TheVariants.{Null, Int}
use Rattle.sqlite.specs.Term.{Term, lit, col, op2}
use Rattle.sqlite_sql.specs.declared.ops.BinaryOp.TheVariants.{Compare}
use Rattle.sqlite_sql.specs.declared.ops.CompareOp.TheVariants.{Eq}
use Rattle.sqlite_value.specs.declared.keys.Collation.TheVariants.{Binary}
use Rattle.sqlite.specs.Query.{Query, inner, end}
use Rattle.sqlite.specs.Source.TheVariants.{Values}
use Rattle.sqlite.specs.Command.TheVariants.{InsertOr, Select, CreateTable, Delete, Nothing}
use Rattle.sqlite_schema.specs.declared.command.Conflict.TheVariants.{Replace}
use Rattle.sqlite.specs.Compile.{table_defined_by}
use Rattle.sqlite_tied.specs.Compute.{everything}
use Rattle.sqlite.specs.Listing.{understood, reads_listing}
use Rattle.sqlite.proofs.Callers.{IsPlain, command_of, statement_of}
use Rattle.keeper_sqlite.specs.Table.{record_table, record_schema, no_schema, create_text, select_text, upsert_text, delete_text}

pub create_is : command_of (understood no_schema create_text) ≡ CreateTable
unfolding understood everything
create_is = refl

pub table_is : table_defined_by create_text ≡ Ok record_table
unfolding understood everything
table_is = refl

pub created_is : command_of (understood record_schema create_text) ≡ Nothing
unfolding understood everything
created_is = refl

abbrev pub terms : List Term
terms = lit Null ∷ col 0 0 ∷ col 0 1 ∷ col 0 2 ∷ []

pub upsert_is : command_of (understood record_schema upsert_text) ≡ InsertOr 0 Replace (Values terms 4) []
unfolding understood everything
upsert_is = refl

-- the rowids of the rows with the key
abbrev pub same_key : List Term
same_key = op2 (Compare Eq Binary) (col 1 1) (col 0 0) ∷ op2 (Compare Eq Binary) (col 1 2) (col 0 1) ∷ []

abbrev pub delete_query : Query
delete_query = record {
  from = inner 0 end;
  filter = same_key;
  group = None;
  project = col 1 0 ∷ [];
  distinct = false;
  collations = [];
  order = [];
  limit = lit (Int (negsuc 0));
  offset = lit (Int (pos 0));
}

pub delete_is : command_of (understood record_schema delete_text) ≡ Delete 0 (record { lets = []; body = delete_query })
unfolding understood everything
delete_is = refl

abbrev pub by_key : List (Term × Key)
by_key = (col 1 1, record { collation = Binary; descending = false }) ∷ (col 1 2, record { collation = Binary; descending = false }) ∷ []

-- all rows in the order of the key
abbrev pub select_query : Query
select_query = record {
  from = inner 0 end;
  filter = [];
  group = None;
  project = col 1 1 ∷ col 1 2 ∷ col 1 3 ∷ [];
  distinct = false;
  collations = [];
  order = by_key;
  limit = lit (Int (negsuc 0));
  offset = lit (Int (pos 0));
}

pub select_is : command_of (understood record_schema select_text) ≡ Select (record { lets = []; body = select_query }) (codes "kind" ∷ codes "id" ∷ codes "body" ∷ [])
unfolding understood everything
select_is = refl

pub select_unlisted : reads_listing record_schema select_text ≡ false
unfolding understood everything
select_unlisted = refl

pub create_plain : IsPlain (understood no_schema create_text)
unfolding understood everything
create_plain = (refl, refl)

pub created_plain : IsPlain (understood record_schema create_text)
unfolding understood everything
created_plain = (refl, refl)

pub upsert_plain : IsPlain (understood record_schema upsert_text)
unfolding understood everything
upsert_plain = (refl, refl)

pub delete_plain : IsPlain (understood record_schema delete_text)
unfolding understood everything
delete_plain = (refl, refl)

pub select_plain : IsPlain (understood record_schema select_text)
unfolding understood everything
select_plain = (refl, refl)

pub create_whole : statement_of create_text (understood no_schema create_text) ≡ create_text
unfolding understood everything
create_whole = refl
