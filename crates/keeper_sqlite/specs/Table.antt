-- The one table of a store, the schema that has it alone, and the texts of the statements over it.
use Rattle.std.specs.Prelude.{true, false, [], ◌∷◌, None, codes, List, ℕ}
use Rattle.sqlite.specs.Collation.TheVariants.{Binary}
use Rattle.sqlite.specs.declared.types.Value.TheVariants.{Null}
use Rattle.sqlite.specs.Table.{Table}
use Rattle.sqlite.specs.Schema.{Schema}
use Rattle.sqlite.specs.Kind.TheVariants.{Integer, Blob}
use Rattle.sqlite_catalog.specs.Listing.{automatic}

abbrev pub record_table : Table
record_table = record {
  name = codes "record";
  tree = 0;
  columns = (record { name = codes "kind"; kind = Integer; is_strict = true; not_null = true; default = Null; collation = Binary })
      ∷ (record { name = codes "id"; kind = Blob; is_strict = true; not_null = true; default = Null; collation = Binary })
      ∷ (record { name = codes "body"; kind = Blob; is_strict = true; not_null = true; default = Null; collation = Binary }) ∷ [];
  key = None;
  primary = 1 ∷ 2 ∷ [];
  uniques = (1 ∷ 2 ∷ []) ∷ [];
  orders = (record { digits = 0 }) ∷ [];
  checks = [];
  references = [];
  computed = [];
  stamps = record { places = []; terms = []; formats = [] };
  is_counted = false;
}

abbrev pub record_schema : Schema
record_schema = record { tables = record_table ∷ []; indexes = automatic record_table 0 (1 ∷ 2 ∷ []) 1 ∷ []; views = [] }

abbrev pub no_schema : Schema
no_schema = record { tables = []; indexes = []; views = [] }

abbrev pub create_text : List ℕ
create_text = codes "CREATE TABLE IF NOT EXISTS record(kind INTEGER NOT NULL, id BLOB NOT NULL, body BLOB NOT NULL, PRIMARY KEY(kind, id)) STRICT"

abbrev pub select_text : List ℕ
select_text = codes "SELECT kind, id, body FROM record ORDER BY kind, id"

abbrev pub upsert_text : List ℕ
upsert_text = codes "INSERT OR REPLACE INTO record(kind, id, body) VALUES(?1, ?2, ?3)"

abbrev pub delete_text : List ℕ
delete_text = codes "DELETE FROM record WHERE kind = ?1 AND id = ?2"
