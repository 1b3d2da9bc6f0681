-- What the statements do to a connection whose schema is the one table.
use Rattle.std.proofs.Common.{◌≡◌, inl, inr, ℕ, ℤ, pos, ◌<◌, Bool, true, false, ◌&&◌, List, [], ◌∷◌, map, Option, None, Some, Ok, refl, sym, ap, subst, ◌∙◌, is_eq, int_cmp}
use Rattle.std.specs.Ordering.{nat_cmp}
use Rattle.std.specs.FinMap.{insert, remove, from_entries}
use Rattle.std.specs.List.{list_all}
use Rattle.std.specs.Cmp.Lexicographic.{slice_cmp}
use Rattle.std.specs.FinMap.{int_cmp-IsAntisymmetric, nat_cmp-IsAntisymmetric, slice_cmp-IsAntisymmetric}
use Rattle.std.proofs.lemmas.Cmp.{tied_itself, int_cmp_total, nat_list_cmp_total}
use Rattle.std.proofs.lemmas.Bool.{and_parts, and_from}
use Rattle.sqlite.specs.Term.{col, holds}
use Rattle.sqlite.specs.Query.{IsAnswerAs}
use Rattle.sqlite.specs.Program.{overlay}
use Rattle.sqlite_rules.specs.Lists.{Has}
use Rattle.sqlite_rules.specs.Calls.{ids_of}
use Rattle.sqlite_rules.proofs.ListLemmas.{all_has}
use Rattle.keeper_sqlite.proofs.Querying.{has_mapped, mapped_has, shown, shows}
use Rattle.keeper_sqlite.proofs.StoredRows.{AreIdsOf, left_records, left_finds}
use Rattle.sqlite.specs.declared.types.Value.TheVariants.{Null, Int, Blob}
use Rattle.sqlite.specs.Order.{Row}
use Rattle.sqlite.specs.Tree.{Trees, rowid}
use Rattle.sqlite.specs.Edit.{edit_of, next_rowid, with_rowid, id_in, without_all}
use Rattle.sqlite.specs.Cast.{cast_row}
use Rattle.sqlite_schema.specs.declared.schema.Keys.{Keys}
use Rattle.sqlite.specs.Rowids.TheVariants.{Chosen, Given}
use Rattle.sqlite.specs.Source.TheVariants.{Values}
use Rattle.sqlite.specs.Command.TheVariants.{InsertOr, Delete}
use Rattle.sqlite_schema.specs.declared.command.Conflict.TheVariants.{Replace}
use Rattle.sqlite.specs.Does.{Tally, Does}
use Rattle.sqlite.specs.Rows.{Written, Task, Upserts, Judged, Tries, TriesEach, nothing, mended, count_of}
use Rattle.sqlite.specs.Effect.{Database}
use Rattle.sqlite.specs.Listing.{understood}
use Rattle.sqlite.specs.State.{State, mode_of, Executes}
use Rattle.sqlite.proofs.Callers.{statement_of, runs_as, one_step}
use Rattle.sqlite_rules.specs.declared.error.Refusal.{Refusal}
use Rattle.sat_base.specs.Rows.{Key, key_cmp}
use Rattle.keeper_sqlite.specs.Table.{record_table, record_schema, upsert_text, delete_text}
use Rattle.keeper_sqlite.specs.Records.{stored, AreRecords, key_in, entry_in, rows_in, Holds}
use Rattle.keeper_sqlite.proofs.StatementTexts.{terms, upsert_is, upsert_plain, delete_is, delete_plain, delete_query, same_key}
use Rattle.keeper_sqlite.proofs.ValueTests.{cast_source, eq_int, eq_blob}
use Rattle.keeper_sqlite.proofs.TableEdits.{went, same_value, clears, removed}
use Rattle.sat_base.proofs.Tests.{equal}

module _ (limit : Option ℕ) (keys : Keys) (params : Row) (kind : ℕ) (id body : List ℕ) (small : kind < 256) (db : Trees) (ours : AreRecords (db 0)) where
  abbrev it : Task
  it = record { limit = limit; keys = keys; schema = record_schema; table = record_table; params = params }

  abbrev new : Row
  new = stored (next_rowid (db 0)) kind id body

  judged : (verdict : Option Refusal) (w : Written) → Judged it Replace [] new db verdict (Ok w) → Upserts it Replace new db [] (Ok w)
  judged None w h = h
  judged (Some why) w h = absurd (let e = h in cc)

  tried : (w : Written) → Tries it Replace [] new db (Ok w) → Upserts it Replace new db [] (Ok w)
  tried w (inl low) = absurd (let e = low.1 in cc)
  tried w (inr h) = judged h.0 w h.2

  abbrev source : Row
  source = Null ∷ Int (pos kind) ∷ Blob id ∷ Blob body ∷ []

  new_is : with_rowid Chosen (db 0) (cast_row record_table (mended Replace record_table source)) ≡ new
  new_is = ap (with_rowid Chosen (db 0)) (cast_source kind id body)

  pub each_tried : (top : ℤ) (done : Written × ℤ) → TriesEach it Replace [] (source ∷ []) top (nothing db) (Ok done)
      → AreRecords (done.0.trees 0) × (from_entries {R = key_cmp} (map entry_in (done.0.trees 0)) ≡ insert (from_entries (map entry_in (db 0))) (kind, id) body)
  each_tried top done h =
      let one = went h in
      let trees : done.0.trees ≡ one.0.trees = ap (λ (p : Written × ℤ). p.0.trees) (same_value one.2) in
      let put = tried one.0 (subst (λ (r : Row). Tries it Replace [] r db (Ok one.0)) new_is one.1) in
      subst (λ (t : Trees). AreRecords (t 0) × (from_entries {R = key_cmp} (map entry_in (t 0)) ≡ insert (from_entries (map entry_in (db 0))) (kind, id) body)) (sym trees)
      (clears kind id body small (db 0) ours limit keys params db refl put.0 put.1 one.0 put.2)

module _ (old new : State) (has : old.now.schema ≡ record_schema) (ours : AreRecords (old.now.trees 0)) where
  pub upserts : (kind : ℕ) (id body : List ℕ) → kind < 256 → (count : ℕ) → Executes upsert_text (Int (pos kind) ∷ Blob id ∷ Blob body ∷ []) old new (Ok count) → Holds new.now (insert (rows_in old.now.trees) (kind, id) body)
  upserts kind id body small count h =
      let params = Int (pos kind) ∷ Blob id ∷ Blob body ∷ [] in
      let db = old.now.trees in
      let command = InsertOr 0 Replace (Values terms 4) [] in
      let w = runs_as upsert_text params old new record_schema has command upsert_is upsert_plain count h in
      let text = statement_of upsert_text (understood record_schema upsert_text) in
      let done = went (subst (λ s. Does old.step_limit (mode_of old) params (record old.now { schema = s }) text None command (Ok (w.tally, new.now))) has w.changed) in
      let now = ap (λ (p : Tally × Database). p.1) (same_value (went (went done.2).2).2) in
      let given = went done.1 in
      let counter = went given.2 in
      let each = went counter.2 in
      let counts = went each.2 in
      let trees : done.0.trees ≡ each.0.0.trees = ap (λ (it : Written). it.trees) (same_value counts.2) ∙ same_value counts.1 in
      let all : new.now.trees ≡ each.0.0.trees = ap (λ (d : Database). d.trees) now ∙ trees in
      let made = each_tried old.step_limit (mode_of old).keys params kind id body small db ours (count_of counter.0) each.0
      (subst (λ (rs : List Row). TriesEach (record { limit = old.step_limit; keys = (mode_of old).keys; schema = record_schema; table = record_table; params = params }) Replace [] rs (count_of counter.0) (nothing db) (Ok each.0)) given.1.1 each.1) in
      record { schema = ap (λ (d : Database). d.schema) now; records = subst (λ (t : Trees). AreRecords (t 0)) (sym all) made.0; is = ap rows_in all ∙ made.1 }

or_ids : (rows : List Row) → AreRecords rows → (r : Row) → Has rows r → rowid r ≡ Int (id_in (rowid r))
or_ids rows ours r h = let it = all_has _ rows r ours.1 h in rw it.is

-- the WHERE of the delete tests the key
keyed : (at : ℤ) (k kind : ℕ) (i id body : List ℕ) → list_all (holds ((Int (pos kind) ∷ Blob id ∷ []) ∷ stored at k i body ∷ [])) same_key ≡ (is_eq (int_cmp (pos k) (pos kind)) && is_eq (slice_cmp nat_cmp i id))
keyed at k kind i id body = rw (eq_int (pos k) (pos kind), eq_blob i id) (last (is_eq (int_cmp (pos k) (pos kind))) (is_eq (slice_cmp nat_cmp i id)))
  where
    last : (a b : Bool) → (a && (b && true)) ≡ (a && b)
    last true true = refl
    last true false = refl
    last false b = refl

module _ (kind : ℕ) (id : List ℕ) (db : Trees) (ours : AreRecords (db 0)) (rows : List Row) where
  abbrev wanted : Row
  wanted = Int (pos kind) ∷ Blob id ∷ []

  pub deleted_ids : IsAnswerAs Null delete_query (overlay db []) wanted rows → AreIdsOf (db 0) (kind, id) (ids_of rows)
  deleted_ids a = record {
    sound = λ i h.
        let x = has_mapped (λ (r : Row). id_in (rowid r)) rows i h in
        let r = shown same_key (col 1 0 ∷ []) [] db wanted rows a x.0 x.1 in
        let it = all_has _ (db 0) r.0 ours.1 r.1 in
        let test : (is_eq (int_cmp (pos it.kind) (pos kind)) && is_eq (slice_cmp nat_cmp it.id id)) ≡ true =
        sym (keyed it.rowid it.kind kind it.id id it.body) ∙ subst (λ (y : Row). list_all (holds (wanted ∷ y ∷ [])) same_key ≡ true) it.is r.2 in
        let parts = and_parts _ _ test in
        let k : ◌≡◌ {A = ℤ} (pos it.kind) (pos kind) = int_cmp-IsAntisymmetric _ _ (equal _ parts.0) in
        let kinds : it.kind ≡ kind = cc in
        let ids = slice_cmp-IsAntisymmetric nat_cmp-IsAntisymmetric it.id id (equal _ parts.1) in
        (r.0, r.1, ap key_in it.is ∙ rw (kinds, ids), or_ids (db 0) ours r.0 r.1 ∙ ap Int (sym (x.2 ∙ ap (λ (y : Row). id_in (rowid y)) r.3)));
    complete = λ r h same.
        let it = all_has _ (db 0) r ours.1 h in
        let is : (it.kind, it.id) ≡ (kind, id) = sym (ap key_in it.is) ∙ same in
        let test = ap (λ (y : Row). list_all (holds (wanted ∷ y ∷ [])) same_key) it.is ∙ keyed it.rowid it.kind kind it.id id it.body
        ∙ and_from _ _ (ap (λ (k : Key). is_eq (int_cmp (pos k.0) (pos kind))) is ∙ ap is_eq (tied_itself int_cmp_total (pos kind))) (ap (λ (k : Key). is_eq (slice_cmp nat_cmp k.1 id)) is ∙ ap is_eq (tied_itself nat_list_cmp_total id)) in
        mapped_has (λ (y : Row). id_in (rowid y)) rows (rowid r ∷ []) (shows same_key (col 1 0 ∷ []) [] db wanted rows a r h test);
  }

module _ (old new : State) (has : old.now.schema ≡ record_schema) (ours : AreRecords (old.now.trees 0)) where
  pub deletes : (kind : ℕ) (id : List ℕ) → (count : ℕ) → Executes delete_text (Int (pos kind) ∷ Blob id ∷ []) old new (Ok count) → Holds new.now (remove (rows_in old.now.trees) (kind, id))
  deletes kind id count h =
      let params = Int (pos kind) ∷ Blob id ∷ [] in
      let db = old.now.trees in
      let command = Delete 0 (record { lets = []; body = delete_query }) in
      let w = runs_as delete_text params old new record_schema has command delete_is delete_plain count h in
      let text = statement_of delete_text (understood record_schema delete_text) in
      let done = went (subst (λ s. Does old.step_limit (mode_of old) params (record old.now { schema = s }) text None command (Ok (w.tally, new.now))) has w.changed) in
      let now = ap (λ (p : Tally × Database). p.1) (same_value (went (went done.2).2).2) in
      let given = went done.1 in
      let step = went given.2 in
      let ids = ids_of given.0 in
      let are = deleted_ids kind id db ours given.0 (given.1.answer Null) in
      let applies = one_step record_schema (mode_of old).keys db step.0 (edit_of db record_table ids Given 0 []) refl step.1 in
      let all : new.now.trees ≡ step.0 = ap (λ (d : Database). d.trees) now ∙ ap (λ (it : Written). it.trees) (same_value step.2) in
      let table : new.now.trees 0 ≡ without_all (db 0) ids = ap (λ (t : Trees). t 0) all ∙ applies.rows in
      record {
        schema = ap (λ (d : Database). d.schema) now;
        records = subst AreRecords (sym table) (left_records (db 0) ours (kind, id) ids are);
        is = ap (λ (rs : List Row). from_entries {R = key_cmp} (map entry_in rs)) table ∙ removed (db 0) (without_all (db 0) ids) (kind, id) (left_finds (db 0) ours (kind, id) ids are);
      }
