-- What the text of the table does to a connection.
use Rattle.std.proofs.Common.{◌≡◌, ℕ, false, IsTrue, List, [], map, None, Ok, Err, Result, OnOk, refl, sym, ap, subst, ◌∙◌}
use Rattle.std.specs.FinMap.{empty, from_entries}
use Rattle.sqlite.specs.Order.{Row}
use Rattle.sqlite.specs.declared.error.Error.{Error}
use Rattle.sqlite.specs.Store.{Ghosts}
use Rattle.sqlite.specs.Table.{Table}
use Rattle.sqlite.specs.Command.TheVariants.{CreateTable, Nothing}
use Rattle.sqlite.specs.Change.{created, next_tree}
use Rattle.sqlite.specs.Does.{Tally, lacks_sequence}
use Rattle.sqlite.specs.Effect.{Database}
use Rattle.sqlite.specs.State.{State, Writes, Executes, ExecutesInside}
use Rattle.sqlite.specs.Held.{Held, state}
use Rattle.sqlite.proofs.Callers.{runs_as}
use Rattle.sat_base.specs.Rows.{Rows, key_cmp}
use Rattle.keeper_sqlite.specs.Table.{record_table, record_schema, no_schema, create_text}
use Rattle.keeper_sqlite.specs.Records.{Holds, AreRecords, entry_in}
use Rattle.keeper_sqlite.specs.Transitions.{Makes}
use Rattle.keeper_sqlite.proofs.StatementTexts.{create_is, created_is, table_is, create_plain, created_plain, create_whole}
use Rattle.keeper_sqlite.proofs.TableEdits.{went, same_value}
use Rattle.keeper_sqlite.proofs.MadeChanges.{ran, made}

pub creates : (old new : State) (count : ℕ) → old.now.schema ≡ no_schema → Executes create_text [] old new (Ok count) → Holds new.now empty
creates old new count has h =
    let w = subst (λ t. Writes old new None CreateTable t [] count) create_whole (runs_as create_text [] old new no_schema has CreateTable create_is create_plain count h) in
    let all = went w.changed in
    let first = went all.1 in
    let it = first.1 in
    let both : ◌≡◌ {A = Result Table _} (Ok it.table) (Ok record_table) = sym it.defined ∙ table_is in
    let same : it.table ≡ record_table = same_value both in
    let schema : first.0.schema ≡ record_schema = it.is ∙ ap (λ s. created s it.table) has ∙ ap (created no_schema) same in
    let plain : lacks_sequence first.0.schema ≡ false = ap lacks_sequence schema in
    let now : new.now ≡ first.0 = ap (λ (p : Tally × Database). p.1) (same_value all.2) ∙ same_value (rw plain at first.2) in
    let none : new.now.trees 0 ≡ [] = ap (λ (d : Database). d.trees 0) now ∙ subst (λ s. first.0.trees (next_tree s) ≡ []) has it.empty in
    record {
      schema = ap (λ (d : Database). d.schema) now ∙ schema;
      records = subst AreRecords (sym none) (tt, tt);
      is = ap (λ (rs : List Row). from_entries {R = key_cmp} (map entry_in rs)) none;
    }

pub leaves_be : (old new : State) (count : ℕ) (rows : Rows) → Holds old.now rows → Executes create_text [] old new (Ok count) → Holds new.now rows
leaves_be old new count rows holds h =
    let same = runs_as create_text [] old new record_schema holds.schema Nothing created_is created_plain count h in
    subst (λ (d : Database). Holds d rows) (sym same.0.0.now_is) holds

module _ {S : Type 0} (g : Ghosts S) (old new : Held S) where
  pub makes_table : (e : Error) (r : Result ℕ Error) → (old.in_transaction ≡ false → (r ≡ Err e) × (new ≡ old)) → (IsTrue old.in_transaction → ExecutesInside 0 create_text [] (state g old) (state g new) r)
      → OnOk r (Makes (state g old) (state g new) (λ rows. rows))
  makes_table = made g old new create_text [] (λ rows. rows) (λ count h rows holds. leaves_be (state g old) (state g new) count rows holds h)

  pub makes_new : (e : Error) (r : Result ℕ Error) → (old.in_transaction ≡ false → (r ≡ Err e) × (new ≡ old)) → (IsTrue old.in_transaction → ExecutesInside 0 create_text [] (state g old) (state g new) r)
      → OnOk r ((state g old).now.schema ≡ no_schema → Holds (state g new).now empty)
  makes_new e (Err why) ended runs = tt
  makes_new e (Ok count) ended runs = let h = ran g old new create_text [] count (Ok count) e refl ended runs in λ has. creates (state g old) (state g new) count has h.0
