-- What comes of opening, step by step.
use Rattle.std.proofs.Common.{◌≡◌, ◌⊎◌, ℕ, ◌≤◌, inl, inr, List, [], None, Result, Ok, Err, sym, ap, subst, ◌∙◌, le_trans, arith}
use Rattle.std.specs.Vec.{vec_capacity}
use Rattle.sat_base.specs.Outside.{Rose, Counts}
use Rattle.sat_base.specs.Keeper.{AreOf, Commits, CommitsTo, KeeperView, Loads, failed_commit}
use Rattle.sat_base.specs.Rows.{Rows, AreInOrder, rows_of, changed}
use Rattle.sat_base.specs.declared.rows.Row.{Row}
use Rattle.sat_base.specs.declared.rows.Change.{Change}
use Rattle.sat_base.specs.declared.keeper.Committed.{Committed}
use Rattle.sat_base.specs.declared.keeper.Committed.TheVariants as committed
use Rattle.sat_base.proofs.RowLists.{the_rows}
use Rattle.machine_step.specs.Bounds.{IsValid}
use Rattle.machine_step.specs.Tables.{Tables}
use Rattle.sat_book.specs.Ids.{AreIds}
use Rattle.machine_store.specs.Opening.{AreTablesOf, NamesSome, first_broken_of}
use Rattle.machine_store.specs.declared.opening.CoreErr.{CoreErr}
use Rattle.machine_store.specs.declared.opening.CoreErr.TheVariants as found
use Rattle.sat_book.specs.Book.{BookView, IsBook, Keeps, Spell, start_of}
use Rattle.sat_book.specs.Legal.{E, IsHistory, last_shown, replayed}
use Rattle.sat_book.specs.Opened.{AreSorted, Becomes, NamesFirst, told_of}
use Rattle.sat_book.specs.Openings.{AreUpgraded, IsCause, IsNone, IsReady, IsTaken, Opens, Puts, Refuses, said_of}
use Rattle.sat_book.specs.TableRows.{rows}
use Rattle.sat_book.specs.declared.opened.Ready.{Ready}
use Rattle.sat_book.specs.declared.opening.OpenErr.{OpenErr}
use Rattle.sat_book.specs.declared.opening.OpenErr.TheVariants as errs
use Rattle.sat_book.specs.declared.sorted.Sorted.{Sorted}
use Rattle.sat_book.proofs.LegalLemmas.{history-nil}
use Rattle.sat_book.proofs.PartLemmas.{StandAsRanks, made_of}

-- ---- the machine of rows

pub none_of_rows : (loaded : List Row) (why : OpenErr) → NamesFirst loaded why → IsNone loaded why
none_of_rows loaded (errs.BadRow kind id) names = names
none_of_rows loaded errs.NoMemory names = tt
none_of_rows loaded errs.Fault names = absurd names
none_of_rows loaded (errs.BadTables rule kind id) names = absurd names

pub none_of_parts : (loaded : List Row) (sorted : Sorted) → AreSorted loaded sorted → (err : CoreErr) → NamesSome err (first_broken_of sorted.parts) → IsNone loaded (told_of err)
none_of_parts loaded sorted are (found.Rule rule kind id) names = record {
  changes = sorted.changes.items;
  rows = sorted.rows;
  parts = sorted.parts;
  becomes = are.becomes;
  records = are.records;
  breaks = names;
}
none_of_parts loaded sorted are found.NoMemory names = tt

pub ready_of : StandAsRanks → (loaded : List Row) (term : ℕ) (sorted : Sorted) (ready : Ready) → AreSorted loaded sorted → ready.rows ≡ sorted.rows → ready.changes.items ≡ sorted.changes.items
    → AreTablesOf sorted.parts ready.core.tables → IsValid ready.core.tables → ready.core.pending ≡ None → ready.history.items ≡ [] → term ≤ vec_capacity ready.history → IsReady loaded term ready
ready_of law loaded term sorted ready are rows_are changes_are tables valid free none_yet room =
    let made = made_of law sorted.rows sorted.parts are.records are.ordered ready.core.tables tables in
    record {
      becomes = subst (λ (cs : List Change). Becomes loaded cs ready.rows) (sym changes_are) (subst (λ (l : List Row). Becomes loaded sorted.changes.items l) (sym rows_are) are.becomes);
      ordered = subst AreInOrder (sym rows_are) are.ordered;
      made = ap rows_of rows_are ∙ are.made ∙ ap (λ (cs : List Change). changed cs (rows_of loaded)) (sym changes_are);
      same = ap rows_of rows_are ∙ made.same;
      running = made.running;
      valid = valid;
      ids = made.ids;
      free = free;
      none_yet = none_yet;
      room = room;
    }

-- ---- over the keeper

grows : {a b : ℕ} (answer : Committed) → Counts (failed_commit answer) a b → a ≤ b
grows committed.Done counts = counts.0
grows committed.Fault counts = counts.0
grows committed.NoMemory counts = counts.0

rose_later : (a b c : ℕ) → a ≤ b → Rose b c → Rose a c
rose_later a b c le rose = omega (arith, le, rose)

module _ {K : Type 0} (about : K → KeeperView)
    (no_other : (k : K) (m : Rows) → (about k).is_open → (about k).tells → (about k).leaves m → m ≡ (about k).rows) where
  abbrev Loaded : K → K → List Row → Type 0
  Loaded old new loaded = Loads (about old) (about new) loaded

  abbrev Refused : K → K → OpenErr → Type 0
  Refused = Refuses about

  abbrev Put : List Change → K → K → Result (Unit {0}) OpenErr → Type 0
  Put = Puts about

  pub refuse_none : (old mid : K) (loaded : List Row) (why : OpenErr) → Loaded old mid loaded → IsNone loaded why → Refused old mid why
  refuse_none old mid loaded why loads none = record {
    stays = loads.stays;
    cause = cause why none;
    left = λ c o told m l. inl (no_other old m o told (loads.crash c m l));
  }
    where
      cause : (why : OpenErr) → IsNone loaded why → IsCause about old mid why
      cause (errs.BadRow kind id) none = (loaded, loads.are, none)
      cause (errs.BadTables rule kind id) none = (loaded, loads.are, none)
      cause errs.NoMemory none = tt
      cause errs.Fault none = absurd none

  -- the rows of the keeper are those of which the machine was made
  loaded_rows : (old mid : K) (loaded : List Row) → Loaded old mid loaded → (about mid).is_open → (about old).tells → (about mid).rows ≡ rows_of loaded
  loaded_rows old mid loaded loads o told = loads.stays.kept o told ∙ sym (the_rows (about old).rows loaded loads.ordered (loads.are o told))

  made_rows : (old mid : K) (loaded : List Row) (term : ℕ) (ready : Ready) → Loaded old mid loaded → IsReady loaded term ready → (about mid).is_open → (about old).tells
      → changed ready.changes.items (about mid).rows ≡ rows_of ready.rows
  made_rows old mid loaded term ready loads is o told = ap (changed ready.changes.items) (loaded_rows old mid loaded loads o told) ∙ sym is.made

  -- what a crash in the commit leaves
  left_by : (old mid : K) (loaded : List Row) (term : ℕ) (ready : Ready) (m : Rows) → Loaded old mid loaded → IsReady loaded term ready → (about mid).is_open → (about old).tells → m ≡ changed ready.changes.items (about mid).rows
      → (m ≡ (about old).rows) ⊎ AreUpgraded (about old).rows m
  left_by old mid loaded term ready m loads is o told made = elim is.becomes [
    | inl same ↦ inl (made ∙ ap (λ (cs : List Change). changed cs (about mid).rows) same.none ∙ loads.stays.kept o told)
    | inr upgrades ↦ inr (record {
      loaded = loaded;
      changes = ready.changes.items;
      rows = ready.rows;
      are = loads.are o told;
      upgrades = upgrades;
      made = made ∙ made_rows old mid loaded term ready loads is o told;
    })
  ]

  pub refuse_put : (old mid new : K) (loaded : List Row) (term : ℕ) (ready : Ready) (why : OpenErr) → Loaded old mid loaded → IsReady loaded term ready → Put ready.changes.items mid new (Err why) → Refused old new why
  refuse_put old mid new loaded term ready why loads is puts = elim puts [
    | inl none ↦ absurd cc
    | inr tried ↦ tried_by tried.0 tried.1 tried.2
  ]
    where
      tried_by : (answer : Committed) → Commits ready.changes.items answer (about mid) (about new) → Err why ≡ said_of answer → Refused old new why
      tried_by answer commits said = record {
        stays = record {
          clean = λ c. loads.stays.clean (commits.clean c);
          opened = λ o. loads.stays.opened (commits.opened o);
          told = λ o told. commits.told o (loads.stays.told (commits.opened o) told);
          kept = λ o told. kept answer said (commits.to_rows o (loads.stays.told (commits.opened o) told)) ∙ loads.stays.kept (commits.opened o) told;
          counted = le_trans loads.stays.counted (grows answer commits.counts);
        };
        cause = cause answer said commits.counts;
        left = λ c o told m l. elim (commits.crash c m l) [
          | inl before ↦ inl (no_other old m o told (loads.crash (commits.clean c) m before))
          | inr step ↦ left_by old mid loaded term ready m loads is step.0 told (step.1 (loads.stays.told step.0 told))
        ];
      }
        where
          cause : (answer : Committed) → Err why ≡ said_of answer → Counts (failed_commit answer) (about mid).faults (about new).faults
              → IsCause about old new why
          cause committed.Done said counts = absurd cc
          cause committed.Fault said counts =
              let same : errs.Fault ≡ why = cc in
              subst (IsCause about old new) same (rose_later (about old).faults (about mid).faults (about new).faults loads.stays.counted counts.1)
          cause committed.NoMemory said counts =
              let same : errs.NoMemory ≡ why = cc in
              subst (IsCause about old new) same tt

          kept : (answer : Committed) → Err why ≡ said_of answer → CommitsTo answer (about mid).rows (changed ready.changes.items (about mid).rows) (about new).rows → (about new).rows ≡ (about mid).rows
          kept committed.Done said to = absurd cc
          kept committed.Fault said to = to
          kept committed.NoMemory said to = to

  pub take : (old mid new : K) (loaded : List Row) (term : ℕ) (ready : Ready) → Loaded old mid loaded → IsReady loaded term ready → Put ready.changes.items mid new (Ok tt)
      → IsTaken about old new term ready
  take old mid new loaded term ready loads is puts = elim puts [
    | inl none ↦ subst (λ (k : K). IsTaken about old k term ready) (sym none.1) (record {
      loaded = loaded;
      is_ready = is;
      clean = loads.stays.clean;
      opened = loads.stays.opened;
      told = loads.stays.told;
      kept = λ o told. ap (λ (cs : List Change). changed cs (about mid).rows) (sym none.0) ∙ made_rows old mid loaded term ready loads is o told;
      counted = loads.stays.counted;
      are = loads.are;
    })
    | inr tried ↦ done tried.0 tried.1 tried.2
  ]
    where
      done : (answer : Committed) → Commits ready.changes.items answer (about mid) (about new) → Ok tt ≡ said_of answer
          → IsTaken about old new term ready
      done committed.Done commits said = record {
        loaded = loaded;
        is_ready = is;
        clean = λ c. loads.stays.clean (commits.clean c);
        opened = λ o. loads.stays.opened (commits.opened o);
        told = λ o told. commits.told o (loads.stays.told (commits.opened o) told);
        kept = λ o told. commits.to_rows o (loads.stays.told (commits.opened o) told) ∙ made_rows old mid loaded term ready loads is (commits.opened o) told;
        counted = le_trans loads.stays.counted (grows committed.Done commits.counts);
        are = λ o told. loads.are (commits.opened o) told;
      }
      done committed.Fault commits said = absurd cc
      done committed.NoMemory commits said = absurd cc

  -- ---- the book

  module _ (first keeper : K) (term : ℕ) (ready : Ready) (taken : IsTaken about first keeper term ready)
      (b : BookView K) (is_first : b.first ≡ first) (is_opened : b.opened ≡ keeper) (is_keeper : b.keeper ≡ keeper) (rows_are : b.opening.rows ≡ ready.rows)
      (start_is : start_of b.opening ≡ ready.core.tables) (count : b.opening.faults ≡ (about keeper).faults) (tables : b.tables ≡ ready.core.tables) (history : b.history ≡ []) where
    spelled : Spell b.opening
    spelled = record {
      ordered = subst AreInOrder (sym rows_are) taken.is_ready.ordered;
      same = ap rows_of rows_are ∙ taken.is_ready.same ∙ ap rows (sym start_is);
      running = ap (λ (t : Tables). t.stopped) start_is ∙ taken.is_ready.running;
      valid = subst IsValid (sym start_is) taken.is_ready.valid;
    }

    -- the rows of the keeper are those of the tables
    at_start : (about keeper).is_open → (about first).tells → (about keeper).rows ≡ rows (start_of b.opening)
    at_start o told = taken.kept o told ∙ taken.is_ready.same ∙ ap rows (sym start_is)

    keeps_start : Keeps about first keeper keeper (start_of b.opening) []
    keeps_start = record {
      opened = taken.opened;
      clean = taken.clean;
      told = taken.told;
      kept = at_start;
      left = λ c told m l. inl (no_other keeper m told.was_open (taken.told told.was_open told.told) l ∙ at_start told.was_open told.told);
    }

    pub book_opened : IsBook about b
    book_opened = record {
      spelled = spelled;
      lawful = subst (IsHistory (start_of b.opening) b.opening.faults) (sym history) (history-nil (start_of b.opening) b.opening.faults);
      tables = tables ∙ sym start_is ∙ ap (replayed (start_of b.opening)) (sym history);
      ids = subst AreIds (sym tables) taken.is_ready.ids;
      counted = subst (λ (k : K). (about k).faults ≤ b.opening.faults) (sym is_first) (subst (λ (n : ℕ). (about first).faults ≤ n) (sym count) taken.counted);
      shown = subst (λ (h : List E). last_shown b.opening.faults h ≤ (about b.keeper).faults) (sym history) (subst (λ (k : K). b.opening.faults ≤ (about k).faults) (sym is_keeper) (omega (arith, count)));
      keeps = subst (λ (h : List E). Keeps about b.first b.opened b.keeper (start_of b.opening) h) (sym history)
          (subst (λ (k : K). Keeps about k b.opened b.keeper (start_of b.opening) []) (sym is_first)
          (subst (λ (k : K). Keeps about first k b.keeper (start_of b.opening) []) (sym is_opened)
          (subst (λ (k : K). Keeps about first keeper k (start_of b.opening) []) (sym is_keeper) keeps_start)));
    }

    pub opens : term ≤ b.room → Opens about first term b
    opens room = record {
      loaded = taken.loaded;
      changes = ready.changes.items;
      becomes = subst (Becomes taken.loaded ready.changes.items) (sym rows_are) taken.is_ready.becomes;
      are = subst (λ (k : K). AreOf (about first) (about k) taken.loaded) (sym is_keeper) taken.are;
      first = is_first;
      opened = is_opened ∙ sym is_keeper;
      none_yet = history;
      count = count ∙ ap (λ (k : K). (about k).faults) (sym is_keeper);
      room = room;
    }
