-- What the worker of a lane comes to.
use Rattle.std.specs.Prelude.{◌≡◌, ℕ, List, [], ◌∷◌, ◌++◌, length, Bool, true, false, Option, Some, slice_get}
use Rattle.sat_base.specs.Lane.{LaneView, handed, got_back}
use Rattle.sat_base.specs.Outside.{About, raised}
use Rattle.turnstile.specs.Known.{own_entries}
use Rattle.desk_runs.specs.Runs.{Runs, some_is}
use Rattle.sat_book.specs.Legal.{E}
use Rattle.sat_sessions.specs.Draws.{Draws}
use Rattle.sat_sessions.specs.Listening.{Told}
use Rattle.sat_sessions.specs.Serves.{StopsAt, StopsLast}
use Rattle.sat_sessions.specs.Sessions.{V, Connects, is_full, places_of}
use Rattle.sat_sessions.specs.declared.lanes.LaneEnd.{LaneEnd}
use Rattle.sat_sessions.specs.declared.lanes.LaneEnd.TheVariants as causes
use Rattle.sat_sessions.specs.declared.lanes.Post.{Post}
use Rattle.sat_sessions.specs.declared.lanes.TheConstants as bounds
use Rattle.sat_sessions.specs.declared.told.Session.{Session}

-- what is told of a post
pub record PostView : Type 0 where
  pub lane : LaneView
  pub coming : Option (List ℕ)
  pub words : Option (List ℕ)
  pub words_faults : ℕ

abbrev pub post_view : {L T W : Type 0} → (L → LaneView) → (T → Option (List ℕ)) → (W → Option (List ℕ)) → (W → ℕ) → Post L T W → PostView
post_view about coming left faults post = record { lane = about post.lane; coming = coming post.clock; words = left post.words; words_faults = faults post.words }

-- what its clock and its source of words tell before and after
abbrev pub told_of : PostView → PostView → Told
told_of s s' = record { coming = s.coming; coming_after = s'.coming; words = s.words; words_after = s'.words; faults = s.words_faults; faults_after = s'.words_faults }

-- one session of a lane: a connection came, was served and was given back
pub record LaneTells (secret : List ℕ) (term : ℕ) (s : PostView) (x : Session) (new history : List E) (s' : PostView) : Type 0 where
  pub link : About
  pub link_after : About
  pub not_over : s.lane.over ≡ false
  pub lane_is : s'.lane ≡ got_back (handed s.lane link) link_after
  pub connects : Connects secret term (told_of s s') link link_after history x.end
  pub draws : Draws (told_of s s') new

abbrev pub session_places : Session → List ℕ
session_places x = places_of x.end

abbrev pub session_full : Session → Bool
session_full x = is_full x.end

abbrev pub LaneRuns : {K : Type 0} → List ℕ → ℕ → PostView → V K → List Session → PostView → V K → Type 0
LaneRuns secret term = Runs session_places session_full (LaneTells secret term)

-- a session's number is its place in the list
abbrev pub AreNumbered : List Session → Type 0
AreNumbered xs = (i : ℕ) (x : Session) → slice_get xs i ≡ Some x → x.number ≡ i

-- a property of the last session
abbrev pub IsLast : List Session → (Session → Type 0) → Type 0
IsLast xs P = (front : List Session) × (x : Session) × (xs ≡ front ++ x ∷ []) × P x

-- why the worker ended behind these sessions, and what its last wait changed
abbrev pub Closes : LaneEnd → List Session → List E → PostView → PostView → Type 0
Closes causes.Over xs history s s' = s' ≡ record s { lane = record s.lane { over = true } }
Closes causes.Failed xs history s s' = s' ≡ record s { lane = record s.lane { faults = raised s.lane.faults } }
Closes causes.Stopped xs history s s' = (s' ≡ s) × IsLast xs (λ x. StopsAt x.end history)
Closes causes.TermFull xs history s s' = (s' ≡ s) × IsLast xs (λ x. is_full x.end ≡ true)
Closes causes.Many xs history s s' = (s' ≡ s) × (length xs ≡ bounds.SESSIONS)
Closes causes.NoMemory xs history s s' = s' ≡ s

-- the worker ended since the term is full
abbrev pub is_term_full : LaneEnd → Bool
is_term_full causes.TermFull = true
is_term_full _ = false

-- the worker was told to stop
abbrev pub is_stopped : LaneEnd → Bool
is_stopped causes.Stopped = true
is_stopped _ = false

-- the worker of a lane: its sessions, each from where the one before it ended, and then its last wait
pub record LaneRan {K : Type 0} (secret : List ℕ) (term : ℕ) (s : PostView) (k : V K) (xs : List Session) (end : LaneEnd) (s' : PostView) (k' : V K) : Type 0 where
  pub before_last : PostView
  pub runs : LaneRuns secret term s k xs before_last k'
  pub closes : Closes end xs k'.seen before_last s'
  pub numbered : AreNumbered xs
  -- it ended at the first session that met the full term
  pub met : some_is session_full xs ≡ is_term_full end
  -- and at the first entry that told it to stop
  pub made : List E
  pub made_is : own_entries k' ≡ own_entries k ++ made
  pub stops : StopsLast (is_stopped end) made
  pub desk : k'.desk ≡ k.desk
  pub base : k'.base ≡ k.base
