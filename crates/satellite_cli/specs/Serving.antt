-- What `serve` leaves: where its book isn't opened, and where it is.
use Rattle.std.specs.Prelude.{◌≡◌, ◌⊎◌, ℕ, ◌+◌, ◌-◌, ◌^◌, ◌<◌, ◌≤◌, List, [], ◌∷◌, length, map, ◌||◌, true, Option, Some, slice_get}
use Rattle.sat_base.specs.Keeper.{KeeperView}
use Rattle.sat_base.specs.Lane.{LaneView}
use Rattle.sat_base.specs.Outside.{About, Rose}
use Rattle.sat_base.specs.Rows.{Rows, AreThe}
use Rattle.sat_base.specs.Ticks.{TicksView}
use Rattle.sat_base.specs.declared.nodes.Ask.{Ask}
use Rattle.sat_base.specs.declared.nodes.Held.{Held}
use Rattle.sat_base.specs.declared.rows.Row.{Row}
use Rattle.machine_history.specs.Orders.{SettleOnce}
use Rattle.desk_runs.specs.Numbered.{Apart}
use Rattle.sat_book.specs.Book.{BookView, Keeps, Spell, start_of}
use Rattle.sat_book.specs.Legal.{E, last_shown, said_of}
use Rattle.sat_book.specs.Paid.{ClosedMonthsStay, PaysByTariff}
use Rattle.sat_book.specs.Opened.{IsFirstBad}
use Rattle.sat_book.specs.Openings.{BreaksRule, Refuses}
use Rattle.sat_book.specs.declared.opening.OpenErr.{OpenErr}
use Rattle.sat_book.specs.declared.opening.Opening.{Opening}
use Rattle.sat_console.specs.Run.{Says, fault_line}
use Rattle.sat_sessions.specs.Lanes.{PostView, post_view}
use Rattle.sat_sessions.specs.declared.lanes.Post.{Post}
use Rattle.sat_term.specs.Workers.{Every, KitsView, LaneRow}
use Rattle.sat_term.specs.Term.{TermClauses, met_full}
use Rattle.sat_term.specs.declared.term.Ends.{Ends}
use Rattle.sat_term.specs.declared.term.Term.{Term}
use Rattle.bw_decode.specs.Room.{Room}
use Rattle.node_rounds.specs.Askable.{IsStoreOf}
use Rattle.node_rounds.specs.Asked.{nodes_view}
use Rattle.node_rounds.specs.Kits.{Tells}
use Rattle.node_rounds.specs.Parts.{kit_view}
use Rattle.node_rounds.specs.Tally.{TallyTells, tally_view}
use Rattle.node_rounds.specs.declared.kit.Kit.{Kit}
use Rattle.node_rounds.specs.declared.kit.NodesView.{NodesView}
use Rattle.node_rounds.specs.declared.kit.RoundStore.{RoundStore}
use Rattle.node_rounds.specs.declared.upkeep.Upkeep.TheVariants as kinds
use Rattle.satellite_cli.specs.Ending.{Finishes, SaysWanting, SaysWhy, flags_of, has_all_sessions}
use Rattle.satellite_cli.specs.Headline.{SpeaksOfNamed}

-- no row is bad, and the tables that they spell break no rule
pub record AreSound (rows : Rows) : Type 0 where
  pub no_bad_row : (loaded : List Row) (kind : ℕ) (id : List ℕ) → AreThe rows loaded → IsFirstBad loaded kind id → ⊥
  pub no_broken_rule : (loaded : List Row) (rule kind : ℕ) (id : List ℕ) → AreThe rows loaded → BreaksRule loaded rule kind id → ⊥

-- ---- the workers

-- what a worker that asks nodes goes by is the store's, and its decoder has room for each answer
abbrev pub Fits : Opening → RoundStore → Room → Type 0
Fits opening store room = IsStoreOf opening store.keys store.scheme × (store.scheme.n ≤ room.points)

-- what is told of the workers of rounds, and of all
abbrev pub Kits : Type 0
Kits = KitsView NodesView NodesView (Unit {0})

pub record DevicesView : Type 0 where
  pub posts : List PostView
  pub kits : Kits

module _ {L T W N I : Type 0} (lane : L → LaneView) (coming : T → Option (List ℕ)) (left : W → Option (List ℕ)) (words_faults : W → ℕ)
    (held : N → Option (List Held)) (asks : N → Option (List Ask)) (nodes_faults : N → ℕ) (ticks : I → TicksView) where
  -- what is told of posts and three kits. The worker of tallies has no nodes and no words
  abbrev pub devices_view : List (Post L T W) → Kit N T W I → Kit N T W I → Kit N T W I → DevicesView
  devices_view posts audit repair tally = record {
    posts = map (post_view lane coming left words_faults) posts;
    kits = record {
      audit = kit_view (nodes_view held asks nodes_faults) coming left words_faults ticks audit;
      repair = kit_view (nodes_view held asks nodes_faults) coming left words_faults ticks repair;
      tally = tally_view coming ticks (record { clock = tally.clock; ticks = tally.ticks });
    };
  }

-- ---- the causes of a term's status

abbrev pub Some1 : {X : Type 0} → (X → Type 0) → List X → Type 0
Some1 P [] = ⊥
Some1 P (x ∷ xs) = P x ⊎ Some1 P xs

-- the count of a lane's faults rose, and ended below the end of its type
abbrev pub RoseBelow : ℕ → ℕ → Type 0
RoseBelow old new = Rose old new × (new < 2 ^ 64 - 1)

-- the count of no lane rose
abbrev pub NoneRose : List PostView → List PostView → Type 0
NoneRose before after = (i : ℕ) (p q : PostView) → slice_get before i ≡ Some p → slice_get after i ≡ Some q → Rose p.lane.faults q.lane.faults → ⊥

-- nor that of the words of audit and of repair
abbrev pub NoWordsRose : Kits → Kits → Type 0
NoWordsRose before after = (Rose before.audit.words_faults after.audit.words_faults → ⊥) × (Rose before.repair.words_faults after.repair.words_faults → ⊥)

-- 6 exactly where some session or round met the full term or a lane had all its sessions. 7 only where the count of a lane
-- rose; and where 6 isn't, also where one rose below the end of its type. 10 only where the count of words of audit or repair
-- rose; and where 6 and 7 aren't, also where one rose below the end of its type. 5 only where the console's count of writes
-- rose.
pub record Causes (t : Term) (rows : List LaneRow) (kits kits_after : Kits) (status : ℕ) (old new : About) : Type 0 where
  pub full : status ≡ 6 → (met_full t || has_all_sessions t) ≡ true
  pub is_full : (met_full t || has_all_sessions t) ≡ true → status ≡ 6
  pub failed : status ≡ 7 → Some1 (λ (row : LaneRow). Rose row.before.lane.faults row.after.lane.faults) rows
  pub is_failed : (status ≡ 6 → ⊥) → Some1 (λ (row : LaneRow). RoseBelow row.before.lane.faults row.after.lane.faults) rows → status ≡ 7
  pub wordless : status ≡ 10 → Rose kits.audit.words_faults kits_after.audit.words_faults ⊎ Rose kits.repair.words_faults kits_after.repair.words_faults
  pub is_wordless : (status ≡ 6 → ⊥) → (status ≡ 7 → ⊥)
      → RoseBelow kits.audit.words_faults kits_after.audit.words_faults ⊎ RoseBelow kits.repair.words_faults kits_after.repair.words_faults → status ≡ 10
  pub cut : status ≡ 5 → Rose old.write_faults new.write_faults
  pub which : (status ≡ 0) ⊎ ((status ≡ 5) ⊎ ((status ≡ 6) ⊎ ((status ≡ 7) ⊎ ((status ≡ 9) ⊎ (status ≡ 10)))))

module _ {K : Type 0} (about : K → KeeperView) where
  -- there is no book, and it is said why; or there was no memory to begin
  abbrev pub NotOpened : (old new : K) → ℕ → (said said_after : About) → Type 0
  NotOpened old new status said said_after =
      ((why : OpenErr) × Refuses about old new why × SaysWhy why status said said_after)
      ⊎ ((new ≡ old) × (status ≡ 9) × Says (fault_line 9) said said_after)

  -- what a book's history is to its opening and its keeper: each order settles once, operators are paid by the tariff, closed
  -- months stay, and the keeper has the rows of its replay
  pub record Stands (b : BookView K) (keeper : K) (history : List E) : Type 0 where
    pub spelled : Spell b.opening
    pub once : SettleOnce (start_of b.opening) (map said_of history)
    pub pays : PaysByTariff (start_of b.opening) history
    pub closed : ClosedMonthsStay (start_of b.opening) history
    pub keeps : Keeps about b.first b.opened keeper (start_of b.opening) history
    pub shown : last_shown b.opening.faults history ≤ (about keeper).faults

  -- a term of the book: whose replies are those of one machine, which worker made which entry, what each round asked and
  -- found, and why each worker ended
  pub record IsTerm (secret : List ℕ) (term : ℕ) (b : BookView K) (keeper : K) (t : Term) (status : ℕ) (old new : About) (devices devices_after : DevicesView) : Type 0 where
    pub ends : Ends
    pub clauses : TermClauses (Tells kinds.Recheck kinds.Audit (Some b.opening)) (Tells kinds.Repair kinds.Exit (Some b.opening)) (TallyTells (Some b.opening))
        secret term b.opening t ends devices.posts devices_after.posts devices.kits devices_after.kits
    pub stands : Stands b keeper t.history.items
    -- whom its audits blame, and which bytes its repairs keep, of any segment that the reader names
    pub named : SpeaksOfNamed (start_of b.opening).setup.secret b.opening t.history.items clauses.repair_number
    pub finishes : Finishes (flags_of t ends) (length t.history.items) status old new
    pub causes : Causes t clauses.rows devices.kits devices_after.kits status old new

  -- a term for which there was no memory: nothing was entered, no session and no round was made, and the workers' numbers differ
  pub record IsIdle (lanes : ℕ) (b : BookView K) (keeper : K) (t : Term) (status : ℕ) (old new : About) : Type 0 where
    pub rows : t.opening.items ≡ b.opening.rows
    pub none_yet : t.history.items ≡ []
    pub passes : length t.passes.items ≡ lanes + 3
    pub apart : Apart t.passes.items
    pub lists : length t.lanes.items ≡ lanes
    pub no_sessions : Every (λ lane. lane.items ≡ []) t.lanes.items
    pub no_rounds : (t.audits.items ≡ []) × (t.repairs.items ≡ []) × (t.tallies.items ≡ [])
    pub stands : Stands b keeper t.history.items
    pub is_out_of_memory : status ≡ 9
    pub says : SaysWanting 0 old new
