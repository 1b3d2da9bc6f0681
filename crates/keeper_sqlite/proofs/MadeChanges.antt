-- What the data statements make inside a transaction.
use Rattle.std.proofs.Common.{◌≡◌, inl, inr, ℕ, ◌<◌, pos, false, IsTrue, List, [], ◌∷◌, Ok, Err, Result, OnOk, refl, sym, ap, subst, ◌∙◌}
use Rattle.std.proofs.lemmas.Bool.{cases_Bool}
use Rattle.std.specs.FinMap.{insert, remove}
use Rattle.sqlite.specs.declared.types.Value.TheVariants.{Int, Blob}
use Rattle.sqlite.specs.declared.error.Error.{Error}
use Rattle.sqlite.specs.Order.{Row}
use Rattle.sqlite.specs.Store.{Ghosts}
use Rattle.sqlite.specs.State.{State, Executes, ExecutesInside}
use Rattle.sqlite.specs.Held.{Held, state}
use Rattle.sat_base.specs.Rows.{Rows}
use Rattle.keeper_sqlite.specs.Table.{upsert_text, delete_text}
use Rattle.keeper_sqlite.specs.Records.{Holds, rows_in}
use Rattle.keeper_sqlite.specs.Transitions.{Makes}
use Rattle.keeper_sqlite.proofs.DataStatements.{upserts, deletes}

holds_as : (old new : State) (step : Rows → Rows) (rows : Rows) → Holds old.now rows → Holds new.now (step (rows_in old.now.trees)) → Holds new.now (step rows)
holds_as old new step rows h k = record { schema = k.schema; records = k.records; is = k.is ∙ ap step h.is }

module _ {S : Type 0} (g : Ghosts S) (old new : Held S) (sql : List ℕ) (params : Row) where
  -- an answer that it went means that the transaction was there
  pub ran : (count : ℕ) (r : Result ℕ Error) (e : Error) → r ≡ Ok count → (old.in_transaction ≡ false → (r ≡ Err e) × (new ≡ old))
      → (IsTrue old.in_transaction → ExecutesInside 0 sql params (state g old) (state g new) r) → ExecutesInside 0 sql params (state g old) (state g new) (Ok count)
  ran count r e is ended runs = elim (cases_Bool old.in_transaction) [
    | inl on ↦ subst (ExecutesInside 0 sql params (state g old) (state g new)) is (runs on)
    | inr off ↦ absurd (let no = (ended off).0 in let bad : ◌≡◌ {A = Result ℕ Error} (Ok count) (Err e) = sym is ∙ no in cc)
  ]

  pub made : (step : Rows → Rows) → ((count : ℕ) → Executes sql params (state g old) (state g new) (Ok count) → (rows : Rows) → Holds (state g old).now rows → Holds (state g new).now (step rows))
      → (e : Error) (r : Result ℕ Error) → (old.in_transaction ≡ false → (r ≡ Err e) × (new ≡ old)) → (IsTrue old.in_transaction → ExecutesInside 0 sql params (state g old) (state g new) r)
      → OnOk r (Makes (state g old) (state g new) step)
  made step does e (Err why) ended runs = tt
  made step does e (Ok count) ended runs = let h = ran count (Ok count) e refl ended runs in record { was_open = h.1.was_open; rows = does count h.0 }

module _ {S : Type 0} (g : Ghosts S) (old new : Held S) where
  pub makes_upsert : (kind : ℕ) (id body : List ℕ) → kind < 256 → (params : Row) → params ≡ Int (pos kind) ∷ Blob id ∷ Blob body ∷ [] → (e : Error) (r : Result ℕ Error)
      → (old.in_transaction ≡ false → (r ≡ Err e) × (new ≡ old)) → (IsTrue old.in_transaction → ExecutesInside 0 upsert_text params (state g old) (state g new) r)
      → OnOk r (Makes (state g old) (state g new) (λ rows. insert rows (kind, id) body))
  makes_upsert kind id body small params are = made g old new upsert_text params (λ rows. insert rows (kind, id) body) (λ count h rows holds.
      holds_as (state g old) (state g new) (λ rows. insert rows (kind, id) body) rows holds
      (upserts (state g old) (state g new) holds.schema holds.records kind id body small count (subst (λ (p : Row). Executes upsert_text p (state g old) (state g new) (Ok count)) are h)))

  pub makes_delete : (kind : ℕ) (id : List ℕ) (params : Row) → params ≡ Int (pos kind) ∷ Blob id ∷ [] → (e : Error) (r : Result ℕ Error)
      → (old.in_transaction ≡ false → (r ≡ Err e) × (new ≡ old)) → (IsTrue old.in_transaction → ExecutesInside 0 delete_text params (state g old) (state g new) r)
      → OnOk r (Makes (state g old) (state g new) (λ rows. remove rows (kind, id)))
  makes_delete kind id params are = made g old new delete_text params (λ rows. remove rows (kind, id)) (λ count h rows holds.
      holds_as (state g old) (state g new) (λ rows. remove rows (kind, id)) rows holds
      (deletes (state g old) (state g new) holds.schema holds.records kind id count (subst (λ (p : Row). Executes delete_text p (state g old) (state g new) (Ok count)) are h)))
