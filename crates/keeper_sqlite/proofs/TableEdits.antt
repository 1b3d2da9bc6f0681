-- What the upsert and the delete do.
use Rattle.std.proofs.Common.{◌≡◌, ◌⊎◌, inl, inr, ℕ, ℤ, pos, ◌<◌, Bool, true, false, not, cond, ◌&&◌, ◌||◌, List, [], ◌∷◌, map, Option, None, Some, Ok, Err, Result, refl, sym, ap, subst, ◌∙◌, is_eq, int_cmp}
use Rattle.std.specs.Ordering.{nat_cmp, eq_by_cmp}
use Rattle.std.specs.Cmp.Lexicographic.{slice_cmp}
use Rattle.std.specs.FinMap.{insert, remove, from_entries, same_map, get-insert, get-remove, get-from_entries, int_cmp-IsAntisymmetric, nat_cmp-IsAntisymmetric, slice_cmp-IsAntisymmetric}
use Rattle.std.specs.FinMap.Entries.{find}
use Rattle.std.proofs.lemmas.Cmp.{tied_itself, int_cmp_total, nat_list_cmp_total}
use Rattle.std.proofs.lemmas.Bool.{and_parts, not-true, or_cases, or_right, and_from}
use mathlib.Core.Bool.{false≢true}
use Rattle.sqlite.specs.Cast.{cast_row}
use Rattle.sqlite.specs.declared.types.Value.TheVariants.{Int, Blob}
use Rattle.sqlite.specs.Order.{Row, value_cmp}
use Rattle.sqlite_value.proofs.OrderLemmas.{value_cmp-Int}
use Rattle.sqlite.specs.Tree.{Trees, rowid, put_row}
use Rattle.sqlite.specs.Edit.{edit_of, id_in, without_all, next_rowid, is_taken}
use Rattle.sqlite.specs.Rowids.TheVariants.{Chosen, Given}
use Rattle.sqlite_schema.specs.declared.command.Conflict.TheVariants.{Replace}
use Rattle.sqlite_schema.specs.declared.schema.Keys.{Keys}
use Rattle.sqlite.specs.Rows.{Written, Clears, Puts, Task}
use Rattle.sqlite.proofs.Callers.{one_step}
use Rattle.sqlite_rules.specs.Lists.{Has}
use Rattle.sqlite_rules.specs.Calls.{ids_of}
use Rattle.sqlite_rules.specs.Keys.{conflicts, AreConflicts}
use Rattle.sqlite_rules.proofs.ListLemmas.{all_has, all_from, some_from}
use Rattle.sqlite_rules.proofs.PlaceLemmas.{next_is_free}
use Rattle.sat_base.specs.Rows.{Key, key_cmp}
use Rattle.sat_base.proofs.KeyOrder.{keys_total, keys_exact}
use Rattle.keeper_sqlite.specs.Table.{record_table, record_schema}
use Rattle.keeper_sqlite.specs.Records.{stored, AreRecords, key_in, entry_in}
use Rattle.keeper_sqlite.proofs.ValueTests.{conflict_is, cast_again}
use Rattle.keeper_sqlite.proofs.StoredRows.{AreIdsOf, left_records, left_lacks, left_finds, put_records, put_finds}
use Rattle.keeper_sqlite.proofs.Querying.{has_mapped, mapped_has}
use Rattle.sat_base.proofs.Tests.{equal}

-- a part that gave a value did not stop on the way
pub went : {B E R : Type 0} {b : B} {Stops : E → Type 0} → ((stop : E) × Stops stop × (Ok b ≡ Err stop)) ⊎ R → R
went (inl stopped) = absurd (let e = stopped.2 in cc)
went (inr on) = on

pub same_value : {B E : Type 0} {a b : B} → ◌≡◌ {A = Result B E} (Ok a) (Ok b) → a ≡ b
same_value e = cc

-- what a changed table is, by what it has at each key
pub inserted : (old new : List Row) (k : Key) (v : List ℕ) → ((q : Key) → find key_cmp q (map entry_in new) ≡ cond (eq_by_cmp key_cmp q k) (Some v) (find key_cmp q (map entry_in old)))
    → from_entries {R = key_cmp} (map entry_in new) ≡ insert (from_entries (map entry_in old)) k v
inserted old new k v same = same_map keys_total keys_exact _ _ (λ q.
    get-from_entries keys_total (map entry_in new) q ∙ same q ∙ ap (cond (eq_by_cmp key_cmp q k) (Some v)) (sym (get-from_entries keys_total (map entry_in old) q))
    ∙ sym (get-insert keys_total (from_entries (map entry_in old)) k v q))

pub removed : (old new : List Row) (k : Key) → ((q : Key) → find key_cmp q (map entry_in new) ≡ cond (eq_by_cmp key_cmp q k) None (find key_cmp q (map entry_in old)))
    → from_entries {R = key_cmp} (map entry_in new) ≡ remove (from_entries (map entry_in old)) k
removed old new k same = same_map keys_total keys_exact _ _ (λ q.
    get-from_entries keys_total (map entry_in new) q ∙ same q ∙ ap (cond (eq_by_cmp key_cmp q k) None) (sym (get-from_entries keys_total (map entry_in old) q))
    ∙ sym (get-remove keys_total (from_entries (map entry_in old)) k q))

replaced : (b : Bool) (v : List ℕ) (o : Option (List ℕ)) → cond b (Some v) (cond b None o) ≡ cond b (Some v) o
replaced true v o = refl
replaced false v o = refl

module _ (kind : ℕ) (id body : List ℕ) (small : kind < 256) (rows : List Row) (ours : AreRecords rows) where
  abbrev key : Key
  key = (kind, id)

  abbrev pub fresh : Row
  fresh = stored (next_rowid rows) kind id body

  free : is_taken rows fresh ≡ false
  free = next_is_free Chosen rows (Int (pos kind) ∷ Blob id ∷ Blob body ∷ []) ours.0 (all_from _ rows (λ r h. let it = all_has _ rows r ours.1 h in rw it.is))

  abbrev hit_at : ℤ → ℕ → List ℕ → Bool
  hit_at at k i = is_eq (int_cmp at (next_rowid rows)) || (is_eq (int_cmp (pos k) (pos kind)) && is_eq (slice_cmp nat_cmp i id))

  -- a row that conflicts has the key, since the new rowid is free
  same_key : (r : Row) → Has rows r → conflicts None record_schema.indexes record_table fresh r ≡ true → key_in r ≡ key
  same_key r h hit =
      let it = all_has _ rows r ours.1 h in
      let goes : hit_at it.rowid it.kind it.id ≡ true = sym (conflict_is it.rowid (next_rowid rows) it.kind kind it.id id it.body body) ∙ subst (λ (y : Row). conflicts None record_schema.indexes record_table fresh y ≡ true) it.is hit in
      elim (or_cases _ _ goes) [
        | inl taken ↦ absurd (
            let there : is_eq (value_cmp (rowid r) (rowid fresh)) ≡ true = ap (λ (y : Row). is_eq (value_cmp (rowid y) (rowid fresh))) it.is ∙ ap is_eq (value_cmp-Int it.rowid (next_rowid rows)) ∙ taken in
            false≢true (sym free ∙ some_from (λ y. is_eq (value_cmp (rowid y) (rowid fresh))) rows r h there))
        | inr both ↦
            let parts = and_parts _ _ both in
            let k : ◌≡◌ {A = ℤ} (pos it.kind) (pos kind) = int_cmp-IsAntisymmetric _ _ (equal _ parts.0) in
            let kinds : it.kind ≡ kind = cc in
            let ids = slice_cmp-IsAntisymmetric nat_cmp-IsAntisymmetric it.id id (equal _ parts.1) in
            ap key_in it.is ∙ rw (kinds, ids)
      ]

  -- and a row with the key conflicts
  hits : (r : Row) → Has rows r → key_in r ≡ key → conflicts None record_schema.indexes record_table fresh r ≡ true
  hits r h same =
      let it = all_has _ rows r ours.1 h in
      let is : (it.kind, it.id) ≡ key = sym (ap key_in it.is) ∙ same in
      let kinds : it.kind ≡ kind = ap (λ (k : Key). k.0) is in
      let ids : it.id ≡ id = ap (λ (k : Key). k.1) is in
      ap (λ (y : Row). conflicts None record_schema.indexes record_table fresh y) it.is ∙ conflict_is it.rowid (next_rowid rows) it.kind kind it.id id it.body body
      ∙ or_right _ _ (and_from _ _ (ap (λ n. is_eq (int_cmp (pos n) (pos kind))) kinds ∙ ap is_eq (tied_itself int_cmp_total (pos kind))) (ap (λ n. is_eq (slice_cmp nat_cmp n id)) ids ∙ ap is_eq (tied_itself nat_list_cmp_total id)))

  rowid_of : (r : Row) → Has rows r → rowid r ≡ Int (id_in (rowid r))
  rowid_of r h = let it = all_has _ rows r ours.1 h in rw it.is

  -- the rowids of the rows that conflict are those of the rows with the key
  found_ids : (found : List Row) → AreConflicts None record_schema.indexes record_table rows fresh found → AreIdsOf rows key (ids_of found)
  found_ids found are = record {
    sound = λ i h.
        let x = has_mapped (λ (r : Row). id_in (rowid r)) found i h in
        let r = are.sound x.0 x.1 in
        (r.0, r.1, same_key r.0 r.1 r.2, rowid_of r.0 r.1 ∙ ap Int (sym (x.2 ∙ ap (λ (y : Row). id_in (rowid y)) r.3)));
    complete = λ r h same. mapped_has (λ (y : Row). id_in (rowid y)) found (rowid r ∷ []) (are.complete r h (hits r h same));
  }

  module _ (limit : Option ℕ) (keys : Keys) (params : Row) where
    abbrev pub task : Task
    task = record { limit = limit; keys = keys; schema = record_schema; table = record_table; params = params }

    -- the new row is put where its rowid is free
    puts_one : (db : Trees) (w : Written) → Puts task fresh db (Ok w) → (is_taken (db 0) fresh ≡ false) × (w.trees 0 ≡ put_row fresh (db 0))
    puts_one db w h =
        let step = went h in
        let edit = edit_of db record_table [] Given 0 (fresh ∷ []) in
        let applies = one_step record_schema keys db step.0 edit refl step.1 in
        let trees : w.trees ≡ step.0 = ap (λ (it : Written). it.trees) (same_value step.2) in
        let again = cast_again (next_rowid rows) kind id body in
        let good : (not (is_taken (db 0) (cast_row record_table fresh)) && true) ≡ true = applies.fresh in (
          not-true _ (subst (λ (r : Row). not (is_taken (db 0) r) ≡ true) again (and_parts _ _ good).0),
          ap (λ (t : Trees). t 0) trees ∙ applies.rows ∙ ap (λ (r : Row). put_row r (db 0)) again,
        )

    abbrev pub Inserted : List Row → Type 0
    Inserted after = AreRecords after × (from_entries {R = key_cmp} (map entry_in after) ≡ insert (from_entries (map entry_in rows)) key body)

    finish : (ids : List ℤ) → AreIdsOf rows key ids → (after : List Row) → is_taken (without_all rows ids) fresh ≡ false → after ≡ put_row fresh (without_all rows ids) → Inserted after
    finish ids are after unused is =
        let left = left_records rows ours key ids are in
        subst Inserted (sym is) (
          put_records (next_rowid rows) kind id body small (without_all rows ids) left,
          inserted rows (put_row fresh (without_all rows ids)) key body (λ q.
              put_finds (next_rowid rows) kind id body small (without_all rows ids) unused (left_lacks rows ours key ids are) q
              ∙ ap (cond (eq_by_cmp key_cmp q key) (Some body)) (left_finds rows ours key ids are q)
              ∙ replaced (eq_by_cmp key_cmp q key) body (find key_cmp q (map entry_in rows))),
        )

    pub clears : (db : Trees) → db 0 ≡ rows → (found : List Row) → AreConflicts None record_schema.indexes record_table rows fresh found → (w : Written) → Clears task Replace fresh db found (Ok w) → Inserted (w.trees 0)
    clears db same [] are w h =
        let one = rw same at (puts_one db w h) in
        finish [] (found_ids [] are) (w.trees 0) one.0 one.1
    clears db same (x ∷ more) are w h =
        let step = went h in
        let edit = edit_of db record_table (ids_of (x ∷ more)) Given 0 [] in
        let applies = one_step record_schema keys db step.0 edit refl step.1 in
        let mid : step.0 0 ≡ without_all rows (ids_of (x ∷ more)) = applies.rows ∙ ap (λ (rs : List Row). without_all rs (ids_of (x ∷ more))) same in
        let one = rw mid at (puts_one step.0 w step.2) in
        finish (ids_of (x ∷ more)) (found_ids (x ∷ more) are) (w.trees 0) one.0 one.1
