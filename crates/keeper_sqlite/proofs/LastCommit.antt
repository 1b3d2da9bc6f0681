-- What a call of the crate leaves of the last commit.
use Rattle.std.proofs.Common.{◌≡◌, ◌⊎◌, inl, inr, ℕ, ◌<◌, ◌+◌, true, false, List, [], ◌∷◌, ◌++◌, length, take, get_or, Option, None, Some, Ok, Err, Result, IfOk, IfErr, OnOk, IsTrue, refl, sym, ap, subst, ◌∙◌, arith}
use Rattle.std.proofs.lemmas.Bool.{cases_Bool}
use Rattle.sqlite.specs.Order.{Row}
use Rattle.sqlite.specs.Tree.{Trees}
use Rattle.sqlite.specs.declared.error.Error.{Error}
use Rattle.sqlite.specs.Store.{Ghosts}
use Rattle.sqlite.specs.Effect.{Database}
use Rattle.sqlite.specs.State.{State, HasCleanDisk, Survives, IsUnchanged, IsRolledBack, Shows, IsNotRun, ExecutesInside, KeepsCounts, Shown, ShowsRows, FailsToQuery, FailsToShow, IsTooLate}
use Rattle.sqlite.specs.Held.{Held, state}
use Rattle.sqlite.specs.Steps.{FailsToCommit}
use Rattle.sqlite_resolve.specs.declared.compiled.Compiled.{Compiled}
use Rattle.sqlite_schema.specs.declared.command.Returning.{Returning}
use Rattle.sat_base.specs.declared.rows.Change.{Change}
use Rattle.sat_base.specs.Rows.{Rows, changed, change_of}
use Rattle.sat_base.proofs.RowEdits.{changed_push}
use Rattle.std.proofs.lemmas.List.{take_more}
use Rattle.keeper_sqlite.specs.Records.{Holds, rows_in}
use Rattle.keeper_sqlite.specs.Transitions.{Keeps, Makes, Commits}

pub keeps_then : (a b c : State) → Keeps a b → Keeps b c → Keeps a c
keeps_then a b c p q = record {
  clean = omega (arith, p.clean, q.clean);
  crash = λ clean db h. p.crash (omega (arith, q.clean)) db (q.crash clean db h);
  still = λ clean opened. let k = q.still clean opened in let j = p.still (omega (arith, q.clean)) k.0 in (j.0, k.1 ∙ j.1);
}

pub keeps_same : (a : State) → Keeps a a
keeps_same a = record { clean = omega arith; crash = λ _ db h. h; still = λ _ opened. (opened, refl) }

from_unchanged : (old new : State) → IsUnchanged old new → IsTrue old.is_open × (new.committed ≡ old.committed)
from_unchanged old new h = (h.0.was_open, h.0.committed_is)

pub from_rolled : (old new : State) → IsRolledBack old new → IsTrue new.is_open → IsTrue old.is_open × (new.committed ≡ old.committed)
from_rolled old new h opened = (h.was_open opened, (h.undone opened).1)

keeps_by : (old new : State) → Survives old new (λ _. ⊥) → (HasCleanDisk new → IsTrue new.is_open → IsTrue old.is_open × (new.committed ≡ old.committed)) → Keeps old new
keeps_by old new s still = record {
  clean = s.clean;
  crash = λ clean db h. elim (s.crash clean db h) [ inl was ↦ was | inr none ↦ absurd none ];
  still = still;
}

pub keeps_rolled : (old new : State) → Survives old new (λ _. ⊥) → (HasCleanDisk new → IsRolledBack old new) → Keeps old new
keeps_rolled old new s rolled = keeps_by old new s (λ clean. from_rolled old new (rolled clean))

inside : (old new : State) (sql : List ℕ) (params : Row) (r : Result ℕ Error) → ExecutesInside 0 sql params old new r → IsTrue new.is_open → IsTrue old.is_open × (new.committed ≡ old.committed)
inside old new sql params (Ok count) h opened = (h.1.was_open, h.1.committed_is)
inside old new sql params (Err e) (inl h) opened = elim h.1 [ inl same ↦ from_unchanged old new same | inr rolled ↦ from_rolled old new rolled opened ]
inside old new sql params (Err e) (inr h) opened = from_unchanged old new h.2

not_run : (old new : State) (sql : List ℕ) (params : Row) (e : Error) → IsNotRun old new sql params e → IsTrue new.is_open → IsTrue old.is_open × (new.committed ≡ old.committed)
unfolding IsNotRun
not_run old new sql params e (inl h) opened = from_unchanged old new h.1
not_run old new sql params e (inr h) opened = from_rolled old new h.3 opened

module _ {S : Type 0} (g : Ghosts S) (old new : Held S) where
  -- a statement inside a `Transaction`
  pub keeps_execute : (sql : List ℕ) (params : Row) (r : Result ℕ Error) (Ended : Type 0) → (old.in_transaction ≡ false → Ended × (new ≡ old))
      → (HasCleanDisk (state g new) → IsTrue old.in_transaction → ExecutesInside 0 sql params (state g old) (state g new) r) → Survives (state g old) (state g new) (λ _. ⊥) → Keeps (state g old) (state g new)
  keeps_execute sql params r Ended ended runs survives = elim (cases_Bool old.in_transaction) [
    | inl on ↦ keeps_by (state g old) (state g new) survives (λ clean. inside (state g old) (state g new) sql params r (runs clean on))
    | inr off ↦ subst (λ (h : Held S). Keeps (state g old) (state g h)) (sym (ended off).1) (keeps_same (state g old))
  ]

shows_rows : (old new : State) (sql : List ℕ) (c : Compiled) (params : Row) (rows : List Row) (returning : Option Returning) → IsTrue old.in_transaction → ShowsRows old new sql c params rows returning → IsTrue old.is_open × (new.committed ≡ old.committed)
shows_rows old new sql c params rows None on h = from_unchanged old new h.3
shows_rows old new sql c params rows (Some what) on h = (h.1.shown.was_open, h.1.shown.committed_is ∙ rw on)

fails_to_show : (old new : State) (sql : List ℕ) (c : Compiled) (params : Row) (e : Error) (returning : Option Returning) → FailsToShow old new sql c params e returning → IsTrue new.is_open → IsTrue old.is_open × (new.committed ≡ old.committed)
fails_to_show old new sql c params e None h opened = from_unchanged old new h.3
fails_to_show old new sql c params e (Some what) (inl h) opened = from_unchanged old new h.1
fails_to_show old new sql c params e (Some what) (inr h) opened = from_rolled old new h.3 opened

fails : (old new : State) (sql : List ℕ) (params : Row) (e : Error) → FailsToQuery sql params old new e → IsTrue new.is_open → IsTrue old.is_open × (new.committed ≡ old.committed)
unfolding FailsToQuery
fails old new sql params e (inl h) opened = not_run old new sql params e h opened
fails old new sql params e (inr h) opened = fails_to_show old new sql h.0 _ e h.0.returning h.2 opened

went_through : (old new : State) (sql : List ℕ) (params : Row) (rows : List Row) → IsTrue old.in_transaction → Shown sql params old new rows → IsTrue old.is_open × (new.committed ≡ old.committed)
unfolding Shown
went_through old new sql params rows on h = shows_rows old new sql h.0 _ rows h.0.returning on h.2

-- a query inside a `Transaction`
pub keeps_query : {X : Type 0} (items : X → List Row) (old new : State) (sql : List ℕ) (params : Row) (r : Result X Error) → IsTrue old.in_transaction
    → (HasCleanDisk new → IfOk r (λ x. Shown sql params old new (items x))) → (HasCleanDisk new → IfErr r (λ e. FailsToQuery sql params old new e ⊎ IsTooLate sql params old new e))
    → Survives old new (λ _. ⊥) → Keeps old new
keeps_query items old new sql params (Ok x) on ok err survives = keeps_by old new survives (λ clean opened. went_through old new sql params (items x) on (ok clean))
keeps_query items old new sql params (Err e) on ok err survives = keeps_by old new survives (λ clean opened. elim (err clean) [
  | inl f ↦ fails old new sql params e f opened
  | inr late ↦ from_unchanged old new late.5
])

-- what is undone is no commit
pub gives_up : (first last : State) (step : Rows → Rows) (r : Result (Unit {0}) Error) (e : Error) → r ≡ Err e → Keeps first last → Commits first last step r
gives_up first last step r e is kept = subst (Commits first last step) (sym is) (record {
  clean = kept.clean;
  was_open = λ clean opened. (kept.still clean opened).0;
  ok = λ clean opened. tt;
  err = λ clean opened. (kept.still clean opened).1;
  crash = λ clean db h. inl (kept.crash clean db h);
})

module _ (first mid last : State) (step : Rows → Rows) (kept : Keeps first mid) (went : HasCleanDisk mid → IsTrue first.is_open) (settled : IsTrue first.is_open → first.now ≡ first.committed)
    (rows : HasCleanDisk mid → (rows : Rows) → Holds first.now rows → Holds mid.now (step rows)) (survives : Survives mid last (λ db. db ≡ mid.now.trees)) where
  early : HasCleanDisk last → HasCleanDisk mid
  early clean = omega (arith, survives.clean)

  holds : HasCleanDisk last → (rows : Rows) → Holds first.committed rows → Holds mid.now (step rows)
  holds clean rs h = rows (early clean) rs (subst (λ (d : Database). Holds d rs) (sym (settled (went (early clean)))) h)

  crashes : HasCleanDisk last → (db : Trees) → last.may_leave db → first.may_leave db ⊎ (IsTrue first.is_open × ((rows : Rows) → Holds first.committed rows → rows_in db ≡ step rows))
  crashes clean db h = elim (survives.crash clean db h) [
    | inl was ↦ inl (kept.crash (early clean) db was)
    | inr is ↦ inr (went (early clean), λ rs h. ap rows_in is ∙ (holds clean rs h).is)
  ]

  failed : (e : Error) → FailsToCommit mid last e → IsTrue last.is_open → IsTrue mid.is_open × (last.committed ≡ mid.committed)
  failed e (inl h) opened = from_rolled mid last h.3 opened
  failed e (inr h) opened = from_unchanged mid last h.2

  pub commits : (r : Result (Unit {0}) Error) → (HasCleanDisk last → OnOk r (IsTrue mid.in_transaction × Shows mid last mid.now mid.now false × KeepsCounts mid last × (last.marks ≡ [])))
      → (HasCleanDisk last → IfErr r (FailsToCommit mid last)) → Commits first last step r
  commits (Ok u) ok err = record {
    clean = omega (arith, kept.clean, survives.clean);
    was_open = λ clean opened. went (early clean);
    ok = λ clean opened rs h. subst (λ (d : Database). Holds d (step rs)) (sym (ok clean).1.committed_is) (holds clean rs h);
    err = λ clean opened. tt;
    crash = crashes;
  }
  commits (Err e) ok err = record {
    clean = omega (arith, kept.clean, survives.clean);
    was_open = λ clean opened. went (early clean);
    ok = λ clean opened. tt;
    err = λ clean opened. let f = failed e (err clean) opened in f.1 ∙ (kept.still (early clean) f.0).1;
    crash = crashes;
  }

-- a commit that was made shows that the store is open
pub commit_opens : (mid last : State) (r : Result (Unit {0}) Error) → (HasCleanDisk last → OnOk r (IsTrue mid.in_transaction × Shows mid last mid.now mid.now false × KeepsCounts mid last × (last.marks ≡ [])))
    → HasCleanDisk last → OnOk r (IsTrue last.is_open)
commit_opens mid last (Ok u) ok clean = (ok clean).1.is_open
commit_opens mid last (Err e) ok clean = tt

pub one_more : (changes : List Change) (at : ℕ) (change : Change) → at < length changes → change ≡ get_or changes at change → (rows : Rows) → changed (take (at + 1) changes) rows ≡ change_of change (changed (take at changes) rows)
one_more changes at change lt is rows = ap (λ (cs : List Change). changed cs rows) (take_more changes at change lt ∙ ap (λ (c : Change). take at changes ++ c ∷ []) (sym is)) ∙ changed_push (take at changes) change rows

pub steps : (first mid last : State) (before after : Rows → Rows) (change : Rows → Rows) → Keeps first mid → Keeps mid last → (HasCleanDisk last → Makes mid last change)
    → (HasCleanDisk mid → (rows : Rows) → Holds first.now rows → Holds mid.now (before rows)) → ((rows : Rows) → after rows ≡ change (before rows))
    → record { kept : Keeps first last; went : HasCleanDisk last → IsTrue first.is_open; rows : HasCleanDisk last → (rows : Rows) → Holds first.now rows → Holds last.now (after rows) }
steps first mid last before after change kept keeps makes held is = record {
  kept = keeps_then first mid last kept keeps;
  went = λ clean. let opened = (makes clean).was_open in (kept.still (omega (arith, keeps.clean)) opened).0;
  rows = λ clean rs h. subst (Holds last.now) (sym (is rs)) ((makes clean).rows (before rs) (held (omega (arith, keeps.clean)) rs h));
}

-- a transaction that begins does nothing to the store
pub keeps_begun : {S : Type 0} (g : Ghosts S) (h : Held S) (s : State) → Keeps (state g (record h { in_transaction = true })) s → Keeps (state g h) s
keeps_begun g h s k = record { clean = k.clean; crash = k.crash; still = k.still }
