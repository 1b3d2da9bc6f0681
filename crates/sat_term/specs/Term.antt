-- The whole term.
use Rattle.std.specs.Prelude.{◌≡◌, ℕ, ◌+◌, ◌-◌, ◌^◌, ◌<◌, ◌≤◌, List, [], ◌∷◌, ◌++◌, length, map, Bool, true, false, cond, nat_lt, ◌||◌, Option, Some, None, flat_map}
use Rattle.sat_base.specs.Lane.{Links, LaneView}
use Rattle.sat_base.specs.Outside.{About, Rose, counted, with_front}
use Rattle.turnstile.specs.History.{own}
use Rattle.desk_runs.specs.Entered.{place_of}
use Rattle.desk_runs.specs.Numbered.{Apart, Covers, places_of_number, times}
use Rattle.desk_runs.specs.Runs.{some_is}
use Rattle.sat_book.specs.Book.{start_of}
use Rattle.sat_book.specs.Legal.{E, IsHistory}
use Rattle.sat_book.specs.declared.opening.Opening.{Opening}
use Rattle.sat_sessions.specs.Draws.{Gives, IsAmong, as_moment, moments_of, words_of}
use Rattle.sat_sessions.specs.Lanes.{PostView, AreNumbered, IsLast, is_stopped, is_term_full, session_places, session_full}
use Rattle.sat_sessions.specs.Listening.{Told}
use Rattle.sat_sessions.specs.Rounds.{KitView, ends_rounds, is_by_round, round_ends, round_places, round_full}
use Rattle.sat_sessions.specs.Serves.{StopsAt, StopsLast}
use Rattle.sat_sessions.specs.Sessions.{Connects, is_full, is_words_fault}
use Rattle.sat_sessions.specs.declared.lanes.TheConstants as bounds
use Rattle.sat_sessions.specs.declared.lanes.LaneEnd.{LaneEnd}
use Rattle.sat_sessions.specs.declared.lanes.LaneEnd.TheVariants as causes
use Rattle.sat_sessions.specs.declared.rounds.Round.{Round}
use Rattle.sat_sessions.specs.declared.rounds.RoundsEnd.{RoundsEnd}
use Rattle.sat_sessions.specs.declared.rounds.RoundsEnd.TheVariants as round_causes
use Rattle.sat_sessions.specs.declared.told.Session.{Session}
use Rattle.sat_term.specs.Workers.{LaneRow, KitRow, KitsView, AreRows, Every, Telling}
use Rattle.sat_term.specs.declared.term.Ends.{Ends}
use Rattle.sat_term.specs.declared.term.Term.{Term}

-- Which worker made which entry: passes has one number per worker, places what its sessions or rounds name.
pub record WholeTerm (term : ℕ) (opening : Opening) (history : List E) (passes : List ℕ) (places : List (List ℕ)) (full : Bool) : Type 0 where
  -- every reply is that of one machine, which takes the calls in this order
  pub legal : IsHistory (start_of opening) opening.faults history
  -- the workers' numbers differ, and each entry has one of them
  pub apart : Apart passes
  pub covered : Covers passes history
  -- the places that a worker names are, in order, those of exactly the entries with its number
  pub told : map (places_of_number history) passes ≡ places
  -- so each place of the history is named once, and no other
  pub once : (place : ℕ) → times place (flat_map (λ ps. ps) places) ≡ cond (nat_lt place (length history)) 1 0
  -- where some session or round met the full term, the term is full
  pub full_is : full ≡ true → length history ≡ term

-- the worker ended since a wait for a connection failed
abbrev pub is_failed : LaneEnd → Bool
is_failed causes.Failed = true
is_failed _ = false

-- why the worker of a lane ended
abbrev pub LaneCause : LaneEnd → List Session → List E → LaneView → LaneView → Type 0
LaneCause causes.Over xs history before after = after.over ≡ true
LaneCause causes.Failed xs history before after = Rose before.faults after.faults
LaneCause causes.Stopped xs history before after = IsLast xs (λ x. StopsAt x.end history)
LaneCause causes.TermFull xs history before after = IsLast xs (λ x. is_full x.end ≡ true)
LaneCause causes.Many xs history before after = length xs ≡ bounds.SESSIONS
LaneCause causes.NoMemory xs history before after = Unit {0}

-- each session with its connection as it came and as it was given back, at some moment and with some words
abbrev pub AreServed : List ℕ → ℕ → List E → List Session → List About → List About → Type 0
AreServed secret term history [] [] [] = Unit {0}
AreServed secret term history (x ∷ xs) (link ∷ links) (after ∷ afters) = ((told : Told) × Connects secret term told link after history x.end) × AreServed secret term history xs links afters
AreServed secret term history _ _ _ = ⊥

-- where a lane tells, what came and what was given back grew by one connection per session, which tells what its session was
abbrev pub LinksGrew : List ℕ → ℕ → List E → List Session → Option Links → Option Links → Type 0
LinksGrew secret term history xs None after = after ≡ None
LinksGrew secret term history xs (Some links) after = (came done : List About) × (after ≡ Some (record { came = links.came ++ came; done = links.done ++ done })) × AreServed secret term history xs came done

abbrev pub count_of : (Session → Bool) → List Session → ℕ
count_of p [] = 0
count_of p (x ∷ xs) = cond (p x) 1 0 + count_of p xs

abbrev pub ends_by_words : Session → Bool
ends_by_words x = is_words_fault x.end

-- what a lane's worker did. The counts are of a run in which they don't reach the end of their type
pub record LaneClauses (secret : List ℕ) (term : ℕ) (history : List E) (row : LaneRow) : Type 0 where
  pub given : row.after.lane.given < 2 ^ 64 - 1 → row.after.lane.given ≡ row.before.lane.given + length row.sessions
  pub numbered : AreNumbered row.sessions
  pub cause : LaneCause row.end row.sessions history row.before.lane row.after.lane
  -- it ended at the first entry that told it to stop
  pub stops : StopsLast (is_stopped row.end) (own (row.number ∷ []) history)
  -- and at the first session that met the full term, and no wait failed but its last
  pub met : some_is session_full row.sessions ≡ is_term_full row.end
  pub failed : row.after.lane.faults ≡ counted (is_failed row.end) row.before.lane.faults
  pub links : LinksGrew secret term history row.sessions row.before.lane.links row.after.lane.links
  -- its calls have moments and words of its own clock and source, in order
  pub gave : List ℕ
  pub gives : Gives row.before.coming gave row.after.coming
  pub moments : IsAmong (moments_of (own (row.number ∷ []) history)) (map as_moment gave)
  pub drew : List ℕ
  pub draws : row.before.words ≡ with_front drew row.after.words
  pub words : IsAmong (words_of (own (row.number ∷ []) history)) drew
  pub words_faults : row.after.words_faults < 2 ^ 64 - 1 → row.before.words_faults + count_of ends_by_words row.sessions ≤ row.after.words_faults

-- why a worker of rounds ended
abbrev pub RoundCause : {N : Type 0} → RoundsEnd → List Round → KitView N → Type 0
RoundCause round_causes.Over xs after = after.ticks.over ≡ true
RoundCause round_causes.Round xs after = (front : List Round) × (x : Round) × (xs ≡ front ++ x ∷ []) × (ends_rounds x.end ≡ true)
RoundCause round_causes.NoMemory xs after = Unit {0}

-- the entries of the rounds, in order: each round's are those at its places, and it tells of them over the whole history
abbrev pub AreTold : {N : Type 0} → Telling N → List E → KitView N → List Round → List E → KitView N → Type 0
AreTold Tells history s [] made s' = (made ≡ []) × (s'.nodes ≡ s.nodes) × (s'.words_faults ≡ s.words_faults)
AreTold {N} Tells history s (x ∷ xs) made s' = (m : KitView N) × (new rest : List E) × (made ≡ new ++ rest) × (map place_of new ≡ round_places x) × Tells s x new history m × AreTold Tells history m xs rest s'

-- what a worker of rounds did
pub record RoundClauses {N : Type 0} (Tells : Telling N) (history : List E) (row : KitRow N) : Type 0 where
  pub given : row.after.ticks.given < 2 ^ 64 - 1 → row.after.ticks.given ≡ row.before.ticks.given + length row.rounds
  pub cause : RoundCause row.end row.rounds row.after
  -- it ended at the first round behind which none comes
  pub met : some_is round_ends row.rounds ≡ is_by_round row.end
  pub gave : List ℕ
  pub gives : Gives row.before.coming gave row.after.coming
  pub moments : IsAmong (moments_of (own (row.number ∷ []) history)) (map as_moment gave)
  pub drew : List ℕ
  pub draws : row.before.words ≡ with_front drew row.after.words
  pub words : IsAmong (words_of (own (row.number ∷ []) history)) drew
  pub told : AreTold Tells history row.before row.rounds (own (row.number ∷ []) history) row.after

abbrev pub sessions_of : Term → List (List Session)
sessions_of t = map (λ v. v.items) t.lanes.items

-- the places that the workers name, the lanes in order, then audit, repair and tally
abbrev pub all_places : Term → List (List ℕ)
all_places t = map (flat_map session_places) (sessions_of t) ++ flat_map round_places t.audits.items ∷ flat_map round_places t.repairs.items ∷ flat_map round_places t.tallies.items ∷ []

-- some session or round met the full term
abbrev pub met_full : Term → Bool
met_full t = some_is (some_is session_full) (sessions_of t) || (some_is round_full t.audits.items || (some_is round_full t.repairs.items || some_is round_full t.tallies.items))

module _ {N M O : Type 0} (AuditTells : Telling N) (RepairTells : Telling M) (TallyTells : Telling O) where
  -- a term over its actual history
  pub record TermClauses (secret : List ℕ) (term : ℕ) (opening : Opening) (t : Term) (ends : Ends) (posts posts_after : List PostView) (kits kits_after : KitsView N M O) : Type 0 where
    pub rows_are : t.opening.items ≡ opening.rows
    pub whole : WholeTerm term opening t.history.items t.passes.items (all_places t) (met_full t)
    pub lane_numbers : List ℕ
    pub audit_number : ℕ
    pub repair_number : ℕ
    pub tally_number : ℕ
    pub passes_are : t.passes.items ≡ lane_numbers ++ audit_number ∷ repair_number ∷ tally_number ∷ []
    pub rows : List LaneRow
    pub are_rows : AreRows rows lane_numbers posts (sessions_of t) ends.lanes.items posts_after
    pub lanes : Every (LaneClauses secret term t.history.items) rows
    pub audit : RoundClauses AuditTells t.history.items (record { number = audit_number; before = kits.audit; rounds = t.audits.items; end = ends.audit; after = kits_after.audit })
    pub repair : RoundClauses RepairTells t.history.items (record { number = repair_number; before = kits.repair; rounds = t.repairs.items; end = ends.repair; after = kits_after.repair })
    pub tally : RoundClauses TallyTells t.history.items (record { number = tally_number; before = kits.tally; rounds = t.tallies.items; end = ends.tally; after = kits_after.tally })
