-- What a call comes to, by what became of the rows of its step.
use Rattle.std.proofs.Common.{◌≡◌, ℕ, ◌⊎◌, inl, inr, Bool, true, false, List, [], ◌∷◌, refl, sym, ap, subst, ◌∙◌, arith}
use Rattle.std.specs.Prelude.{map, if◌then◌else◌, Option, Some, IfSome}
use Rattle.sat_base.specs.Keeper.{KeeperView}
use Rattle.sat_base.specs.Rows.{Rows, changed}
use Rattle.sat_base.specs.declared.keeper.Committed.TheVariants as committed
use Rattle.machine_calls.specs.declared.call.Call.{Call}
use Rattle.machine_calls.specs.declared.reply.Reply.{Reply}
use Rattle.machine_calls.specs.declared.reply.Reply.TheVariants as replies
use Rattle.machine_calls.specs.declared.change.RecChange.{RecChange}
use Rattle.machine_calls.specs.Replies.{is_lost}
use Rattle.machine_step.specs.Bounds.{Each}
use Rattle.machine_step.specs.Tables.{Tables, all_changed}
use Rattle.machine_step.specs.Step.{step, after, IsWellFormed}
use Rattle.machine_step.specs.Writable.{IsWritable}
use Rattle.machine_step.proofs.Replies.{step_made}
use Rattle.machine_history.specs.History.{Said, IsRight, taken}
use Rattle.sat_book.specs.Book.{Moves}
use Rattle.sat_book.specs.Changes.{row_change}
use Rattle.sat_book.specs.Ids.{AreIds, HasId, HasIds, Table}
use Rattle.sat_book.specs.Ids.Table.{nodes_table}
use Rattle.machine_store.specs.declared.prepared.Prepared.{Prepared}
use Rattle.machine_store.specs.Prepared.{Holds}
use Rattle.sat_book.specs.declared.answering.Written.TheVariants as written
use Rattle.sat_book.specs.Kept.{AreWritten, Wrote, Answers}
use Rattle.sat_book.specs.Legal.{IsFault, shown}
use Rattle.sat_book.specs.TableRows.{rows}
use Rattle.sat_book.proofs.ChangedIds.{ids_all}
use Rattle.sat_book.proofs.ChangedRows.{rows_all}
use Rattle.sat_book.proofs.CrashLemmas.{rows_idle}

abbrev said : Call → Reply → Said
said call reply = record { call = call; reply = reply }

-- the rows behind a step are those before it, changed
rows_step : (t : Tables) (call : Call) → AreIds t → Each HasId (step t call).changes → Each IsWritable (step t call).changes
    → changed (map row_change (step t call).changes) (rows t) ≡ rows (after t call)
rows_step t call ids each fit = sym (rows_all t (step t call).changes ids each fit)

-- what a step says of stopping is no row's
ids_behind : (t : Tables) (call : Call) → AreIds (all_changed t (step t call).changes) → (x : Table) → HasIds (after t call) x
ids_behind t call ids nodes_table = ids.all nodes_table
ids_behind t call ids x = ids.all x

ids_step : (t : Tables) (call : Call) → AreIds t → Each HasId (step t call).changes → AreIds (after t call)
ids_step t call ids each = record { all = ids_behind t call (ids_all t (step t call).changes ids each) }

none_has_id : (cs : List RecChange) → cs ≡ [] → Each HasId cs
none_has_id [] e = tt
none_has_id (c ∷ cs) e = absurd cc

-- a reply of the step, and what is taken of it
taken_is : (t : Tables) (call : Call) (reply : Reply) → reply ≡ (step t call).reply → taken t (said call reply) ≡ after t call
taken_is t call reply is = ap (λ (b : Bool). if b then t else after t call) (ap is_lost is ∙ step_made t call)

-- the tables that a pending step makes
pub made_of : (pending : Option Call) (call : Call) (old t next : Tables) → pending ≡ Some call → old ≡ t
    → IfSome pending (λ c. next ≡ after old c) → next ≡ after t call
made_of pending call old t next is same made =
    subst (λ (o : Option Call). IfSome o (λ c. next ≡ after old c)) is made ∙ ap (λ (x : Tables). after x call) same

module _ {K : Type 0} (about : K → KeeperView) where
  abbrev Move : Tables → Call → Reply → K → K → Type 0
  Move = Moves about

  abbrev Come : Tables → Call → Reply → Tables → K → K → Type 0
  Come = Answers about

  -- the keeper wasn't called
  moves_none : (t : Tables) (call : Call) (reply : Reply) (k : K) → (is_lost reply ≡ true) ⊎ ((step t call).changes ≡ []) → rows (taken t (said call reply)) ≡ rows t → Move t call reply k k
  moves_none t call reply k idle same = record {
    clean = λ c. c;
    opened = λ o. o;
    told = λ o told. told;
    kept = λ o told is. is ∙ sym same;
    left = λ c m l. inl (idle, l);
    one_step = λ c m l. inl l;
  }

  -- a commit that wasn't done
  moves_lost : (t : Tables) (call : Call) (reply : Reply) (old new : K) → AreIds t → Each IsWritable (step t call).changes → is_lost reply ≡ true
      → ((about new).is_open → (about old).tells → (about new).rows ≡ (about old).rows)
      → ((about new).is_clean → (about old).is_clean) → ((about new).is_open → (about old).is_open) → ((about new).is_open → (about old).tells → (about new).tells)
      → ((about new).is_clean → (m : Rows) → (about new).leaves m → (about old).leaves m ⊎ ((about old).is_open × ((about old).tells → m ≡ changed (map row_change (step t call).changes) (about old).rows)))
      → Each HasId (step t call).changes → Move t call reply old new
  moves_lost t call reply old new ids fit lost stays clean opened told crash each = record {
    clean = clean;
    opened = opened;
    told = told;
    kept = λ o tells_old is. stays o tells_old ∙ is ∙ sym same;
    left = λ c m l. elim (crash c m l) [
      | inl before ↦ inl (inl lost, before)
      | inr step_left ↦ inr (inl (lost, (step_left.0, λ tells_old is. made m tells_old is step_left.1)))
    ];
    one_step = λ c m l. elim (crash c m l) [
      | inl before ↦ inl before
      | inr step_left ↦ inr (step_left.0, λ tells_old is. made m tells_old is step_left.1)
    ];
  }
    where
      same : rows (taken t (said call reply)) ≡ rows t
      same = ap (λ (b : Bool). rows (if b then t else after t call)) lost

      made : (m : Rows) → (about old).tells → (about old).rows ≡ rows t → ((about old).tells → m ≡ changed (map row_change (step t call).changes) (about old).rows) → m ≡ rows (after t call)
      made m tells_old is left = left tells_old ∙ ap (changed (map row_change (step t call).changes)) is ∙ rows_step t call ids each fit

  -- a commit that was done
  moves_done : (t : Tables) (call : Call) (reply : Reply) (old new : K) → AreIds t → Each IsWritable (step t call).changes → reply ≡ (step t call).reply
      → ((k : K) (m : Rows) → (about k).is_open → (about k).tells → (about k).leaves m → m ≡ (about k).rows) → Wrote about (step t call).changes committed.Done old new → Move t call reply old new
  moves_done t call reply old new ids fit is no_other wrote = record {
    clean = wrote.commits.clean;
    opened = wrote.commits.opened;
    told = wrote.commits.told;
    kept = λ o told same. wrote.commits.to_rows o told ∙ ap (changed (map row_change (step t call).changes)) same ∙ rows_step t call ids wrote.ids fit ∙ ap rows (sym (taken_is t call reply is));
    left = λ c m l. let o = wrote.commits.shown_open refl c in inr (inr (o, λ told. no_other new m o told l));
    one_step = λ c m l. elim (wrote.commits.crash c m l) [
      | inl before ↦ inl before
      | inr step_left ↦ inr (step_left.0, λ told same. step_left.1 told ∙ ap (changed (map row_change (step t call).changes)) same ∙ rows_step t call ids wrote.ids fit)
    ];
  }

  module _ (t : Tables) (call : Call) (formed : IsWellFormed t call) (ids : AreIds t) (fit : Each IsWritable (step t call).changes) where
    answer_right : (reply : Reply) → reply ≡ (step t call).reply → IsRight t (said call reply)
    answer_right reply is = record { formed = formed; answer = λ _. is }

    lost_right : (reply : Reply) → is_lost reply ≡ true → IsRight t (said call reply)
    lost_right reply lost = record { formed = formed; answer = λ told. let never : true ≡ false = sym lost ∙ told in absurd cc }

    -- a reply of a step shows no fault
    no_fault : (reply : Reply) (last : ℕ) → is_lost reply ≡ false → IsFault t last call reply × (shown last reply ≡ last)
    no_fault (replies.StoreFault less more) last kept = absurd cc
    no_fault _ last kept = (tt, refl)

    -- out of memory before the keeper was called, or within it
    pub memory_same : (next : Tables) (k : K) → next ≡ t → Come t call replies.NoMemory next k k
    memory_same next k stays = record {
      right = lost_right replies.NoMemory refl;
      tables = stays;
      ids = subst AreIds (sym stays) ids;
      fault = tt;
      counted = omega arith;
      last = omega arith;
      moves = moves_none t call replies.NoMemory k (inl refl) refl;
    }

    pub memory_wrote : (next : Tables) (old new : K) → next ≡ t → Wrote about (step t call).changes committed.NoMemory old new → Come t call replies.NoMemory next old new
    memory_wrote next old new stays wrote = record {
      right = lost_right replies.NoMemory refl;
      tables = stays;
      ids = subst AreIds (sym stays) ids;
      fault = tt;
      counted = wrote.commits.counts.0;
      last = wrote.commits.counts.0;
      moves = moves_lost t call replies.NoMemory old new ids fit refl wrote.commits.to_rows wrote.commits.clean wrote.commits.opened wrote.commits.told wrote.commits.crash wrote.ids;
    }

    -- a fault
    pub fault_wrote : (next : Tables) (old new : K) (before after : ℕ) → next ≡ t → before ≡ (about old).faults → after ≡ (about new).faults → ((step t call).changes ≡ [] → ⊥)
        → Wrote about (step t call).changes committed.Fault old new → Come t call (replies.StoreFault before after) next old new
    fault_wrote next old new before after stays is_before is_after changes wrote = record {
      right = lost_right (replies.StoreFault before after) refl;
      tables = stays;
      ids = subst AreIds (sym stays) ids;
      fault = (omega (arith, is_before), rw (is_before, is_after) wrote.commits.counts.1, changes);
      counted = wrote.commits.counts.0;
      last = omega (arith, is_after);
      moves = moves_lost t call (replies.StoreFault before after) old new ids fit refl wrote.commits.to_rows wrote.commits.clean wrote.commits.opened wrote.commits.told wrote.commits.crash wrote.ids;
    }

    -- nothing to write
    pub done_same : (reply : Reply) (next : Tables) (k : K) → reply ≡ (step t call).reply → next ≡ after t call → (step t call).changes ≡ [] → Come t call reply next k k
    done_same reply next k is made none =
        let quiet = no_fault reply (about k).faults (ap is_lost is ∙ step_made t call) in
        record {
          right = answer_right reply is;
          tables = made ∙ sym (taken_is t call reply is);
          ids = subst AreIds (sym made) (ids_step t call ids (none_has_id (step t call).changes none));
          fault = quiet.0;
          counted = omega arith;
          last = omega (arith, quiet.1);
          moves = moves_none t call reply k (inr none) (ap rows (taken_is t call reply is) ∙ rows_idle t call none);
        }

    -- written
    pub done_wrote : (reply : Reply) (next : Tables) (old new : K) → reply ≡ (step t call).reply → next ≡ after t call → ((k : K) (m : Rows) → (about k).is_open → (about k).tells → (about k).leaves m → m ≡ (about k).rows)
        → Wrote about (step t call).changes committed.Done old new → Come t call reply next old new
    done_wrote reply next old new is made no_other wrote =
        let quiet = no_fault reply (about old).faults (ap is_lost is ∙ step_made t call) in
        record {
          right = answer_right reply is;
          tables = made ∙ sym (taken_is t call reply is);
          ids = subst AreIds (sym made) (ids_step t call ids wrote.ids);
          fault = quiet.0;
          counted = wrote.commits.counts.0;
          last = omega (arith, quiet.1, wrote.commits.counts.0);
          moves = moves_done t call reply old new ids fit is no_other wrote;
        }

    -- ---- by what became of a prepared step

    module _ (p : Prepared) (holds : Holds p (step t call)) where
      of_step : (answer : committed.the_data) (old new : K) → Wrote about p.changes.items answer old new
          → Wrote about (step t call).changes answer old new
      of_step answer old new wrote = subst (λ (cs : List RecChange). Wrote about cs answer old new) holds.changes wrote

      pub done_of : (told kept : Reply) (next : Tables) (old new : K) → told ≡ p.reply → next ≡ after t call
          → ((k : K) (m : Rows) → (about k).is_open → (about k).tells → (about k).leaves m → m ≡ (about k).rows)
          → AreWritten about p old new (written.Done kept) → Come t call told next old new
      done_of told kept next old new is made no_other are = elim are.1 [
        | inl none ↦ subst (λ (k : K). Come t call told next old k) (sym none.1)
            (done_same told next old (is ∙ holds.reply) made (sym holds.changes ∙ none.0))
        | inr wrote ↦ done_wrote told next old new (is ∙ holds.reply) made no_other (of_step committed.Done old new wrote)
      ]

      pub fault_of : (told : Reply) (next : Tables) (old new : K) (before after : ℕ) → told ≡ replies.StoreFault before after → next ≡ t
          → AreWritten about p old new (written.Fault before after) → Come t call told next old new
      fault_of told next old new before after is stays are =
          subst (λ (r : Reply). Come t call r next old new) (sym is)
          (fault_wrote next old new before after stays are.0 are.1 (λ none. are.2 (holds.changes ∙ none)) (of_step committed.Fault old new are.3))

      pub memory_of : (told : Reply) (next : Tables) (old new : K) → told ≡ replies.NoMemory → next ≡ t
          → AreWritten about p old new written.NoMemory → Come t call told next old new
      memory_of told next old new is stays are = subst (λ (r : Reply). Come t call r next old new) (sym is) (elim are [
        | inl same ↦ subst (λ (k : K). Come t call replies.NoMemory next old k) (sym same) (memory_same next old stays)
        | inr wrote ↦ memory_wrote next old new stays (of_step committed.NoMemory old new wrote)
      ])
