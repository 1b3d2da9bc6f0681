-- What workers that were sent off at once leave.
use Rattle.std.specs.Prelude.{◌≡◌, ℕ, ◌≤◌, List, [], ◌∷◌, ◌++◌, map, vec_len, vec_capacity}
use Rattle.turnstile.specs.History.{own}
use Rattle.turnstile.specs.Known.{kept_half, given_half, own_entries}
use Rattle.desk_runs.specs.Gathered.{Gathered}
use Rattle.desk_runs.specs.Runs.{HasDone, some_is}
use Rattle.sat_book.specs.Legal.{E}
use Rattle.sat_sessions.specs.Lanes.{PostView, LaneTells, Closes, AreNumbered, is_stopped, is_term_full, session_places, session_full}
use Rattle.sat_sessions.specs.Rounds.{KitView, RoundTells, RoundsClose, is_by_round, round_ends, round_places, round_full}
use Rattle.sat_sessions.specs.Serves.{StopsLast}
use Rattle.sat_sessions.specs.Sessions.{V}
use Rattle.sat_sessions.specs.declared.lanes.LaneEnd.{LaneEnd}
use Rattle.sat_sessions.specs.declared.rounds.Round.{Round}
use Rattle.sat_sessions.specs.declared.rounds.RoundsEnd.{RoundsEnd}
use Rattle.sat_sessions.specs.declared.told.Session.{Session}
use Rattle.sat_term.specs.declared.term.Kits.{Kits}
use Rattle.sat_term.specs.declared.term.TermLog.{TermLog}

-- there is room for n lanes, and none stands yet
abbrev pub IsBlank : ℕ → TermLog → Type 0
IsBlank n s = (s.numbers.items ≡ []) × (s.lanes.items ≡ []) × (s.ends.items ≡ []) × (n ≤ vec_capacity s.numbers) × (n ≤ vec_capacity s.lanes) × (n ≤ vec_capacity s.ends)

-- n lanes stand, in the same room
abbrev pub IsFilled : ℕ → TermLog → TermLog → Type 0
IsFilled n s t = (vec_len t.numbers ≡ n) × (vec_len t.lanes ≡ n) × (vec_len t.ends ≡ n) × (vec_capacity t.numbers ≡ vec_capacity s.numbers) × (vec_capacity t.lanes ≡ vec_capacity s.lanes) × (vec_capacity t.ends ≡ vec_capacity s.ends)

abbrev pub Every : {X : Type 0} → (X → Type 0) → List X → Type 0
Every P [] = Unit {0}
Every P (x ∷ xs) = P x × Every P xs

-- the worker of a lane, and what it leaves
pub record LaneRow : Type 0 where
  pub number : ℕ
  pub before : PostView
  pub sessions : List Session
  pub end : LaneEnd
  pub after : PostView

-- what holds of a lane's worker in the history that a pass has seen
pub record LaneHolds {K : Type 0} (secret : List ℕ) (term : ℕ) (u : V K) (row : LaneRow) : Type 0 where
  pub before_last : PostView
  pub done : HasDone session_places session_full (LaneTells secret term) u row.number row.before row.sessions before_last
  pub closes : Closes row.end row.sessions u.seen before_last row.after
  pub numbered : AreNumbered row.sessions
  pub met : some_is session_full row.sessions ≡ is_term_full row.end
  pub stops : StopsLast (is_stopped row.end) (own (row.number ∷ []) u.seen)

-- the rows are those of these lists
pub record AreRows (rows : List LaneRow) (numbers : List ℕ) (befores : List PostView) (lanes : List (List Session)) (ends : List LaneEnd) (afters : List PostView) : Type 0 where
  pub numbers_are : map (λ (r : LaneRow). r.number) rows ≡ numbers
  pub befores_are : map (λ (r : LaneRow). r.before) rows ≡ befores
  pub lanes_are : map (λ (r : LaneRow). r.sessions) rows ≡ lanes
  pub ends_are : map (λ (r : LaneRow). r.end) rows ≡ ends
  pub afters_are : map (λ (r : LaneRow). r.after) rows ≡ afters

abbrev pub lanes_of : TermLog → List (List Session)
lanes_of s = map (λ v. v.items) s.lanes.items

pub record LanesDone {K : Type 0} (secret : List ℕ) (term : ℕ) (v : V K) (befores : List PostView) (w : V K) (afters : List PostView) (log : TermLog) : Type 0 where
  pub gathered : Gathered v log.numbers.items w
  pub rows : List LaneRow
  pub are_rows : AreRows rows log.numbers.items befores (lanes_of log) log.ends.items afters
  pub holds : Every (LaneHolds secret term w) rows

-- the worker of rounds, and what it leaves
pub record KitRow (N : Type 0) : Type 0 where
  pub number : ℕ
  pub before : KitView N
  pub rounds : List Round
  pub end : RoundsEnd
  pub after : KitView N

-- what is told of a round over a history, of nodes of which N is told
abbrev pub Telling : Type 0 → Type 1
Telling N = KitView N → Round → List E → List E → KitView N → Type 0

-- what holds of a worker of rounds in the history that a pass has seen
pub record RoundHolds {K : Type 0} {N : Type 0} (Tells : Telling N) (u : V K) (row : KitRow N) : Type 0 where
  pub before_last : KitView N
  pub done : HasDone round_places round_full (RoundTells Tells) u row.number row.before row.rounds before_last
  pub closes : RoundsClose row.end row.rounds before_last row.after
  pub met : some_is round_ends row.rounds ≡ is_by_round row.end

-- what is told of the three kits
pub record KitsView (N M O : Type 0) : Type 0 where
  pub audit : KitView N
  pub repair : KitView M
  pub tally : KitView O

abbrev pub kits_view : {A B C N M O : Type 0} → (A → KitView N) → (B → KitView M) → (C → KitView O) → Kits A B C → KitsView N M O
kits_view audit repair tally kits = record { audit = audit kits.audit; repair = repair kits.repair; tally = tally kits.tally }

-- the rounds of the three, and why each ended
pub record RoundsLeft : Type 0 where
  pub audits : List Round
  pub repairs : List Round
  pub tallies : List Round
  pub audit_end : RoundsEnd
  pub repair_end : RoundsEnd
  pub tally_end : RoundsEnd

module _ {N M O : Type 0} (AuditTells : Telling N) (RepairTells : Telling M) (TallyTells : Telling O) where
  pub record AllDone {K : Type 0} (secret : List ℕ) (term : ℕ) (v : V K) (befores : List PostView) (kits : KitsView N M O) (w : V K) (afters : List PostView) (kits_after : KitsView N M O) (log : TermLog) (left : RoundsLeft) : Type 0 where
    pub gathered : Gathered v log.numbers.items w
    pub lane_numbers : List ℕ
    pub audit_number : ℕ
    pub repair_number : ℕ
    pub tally_number : ℕ
    pub numbers_are : log.numbers.items ≡ lane_numbers ++ audit_number ∷ repair_number ∷ tally_number ∷ []
    pub rows : List LaneRow
    pub are_rows : AreRows rows lane_numbers befores (lanes_of log) log.ends.items afters
    pub holds : Every (LaneHolds secret term w) rows
    pub audit : RoundHolds AuditTells w (record { number = audit_number; before = kits.audit; rounds = left.audits; end = left.audit_end; after = kits_after.audit })
    pub repair : RoundHolds RepairTells w (record { number = repair_number; before = kits.repair; rounds = left.repairs; end = left.repair_end; after = kits_after.repair })
    pub tally : RoundHolds TallyTells w (record { number = tally_number; before = kits.tally; rounds = left.tallies; end = left.tally_end; after = kits_after.tally })

-- a pass was cut into those of the lanes, of audit, of repair and of tally
pub record Parted {K : Type 0} (whole lanes audit repair tally : V K) : Type 0 where
  pub with_repair : V K
  pub with_audit : V K
  pub first : with_repair ≡ kept_half whole
  pub tally_is : tally ≡ given_half whole
  pub second : with_audit ≡ kept_half with_repair
  pub repair_is : repair ≡ given_half with_repair
  pub third : lanes ≡ kept_half with_audit
  pub audit_is : audit ≡ given_half with_audit
  pub tally_idle : own_entries tally ≡ []
  pub repair_idle : own_entries repair ≡ []
  pub audit_idle : own_entries audit ≡ []
