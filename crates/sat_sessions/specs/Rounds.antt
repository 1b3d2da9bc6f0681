-- What a worker of rounds comes to, whatever a round is.
use Rattle.std.specs.Prelude.{◌≡◌, ℕ, List, [], ◌∷◌, ◌++◌, map, Bool, true, false, Option}
use Rattle.sat_base.specs.Outside.{raised}
use Rattle.sat_base.specs.Ticks.{Beats, TicksView}
use Rattle.sat_base.specs.declared.ticks.Beat.{Beat}
use Rattle.desk_runs.specs.Entered.{Entered, Marked, place_of}
use Rattle.desk_runs.specs.Runs.{Lasts, Runs, some_is}
use Rattle.sat_book.specs.Legal.{E}
use Rattle.sat_sessions.specs.Draws.{Draws}
use Rattle.sat_sessions.specs.Listening.{Told}
use Rattle.sat_sessions.specs.Sessions.{V}
use Rattle.sat_sessions.specs.declared.rounds.Round.{Round}
use Rattle.sat_sessions.specs.declared.rounds.RoundEnd.{RoundEnd}
use Rattle.sat_sessions.specs.declared.rounds.RoundEnd.TheVariants as ends
use Rattle.sat_sessions.specs.declared.rounds.RoundsEnd.{RoundsEnd}
use Rattle.sat_sessions.specs.declared.rounds.RoundsEnd.TheVariants as causes

-- what is told of a kit: of its nodes, its clock, its source of words and its ticks
pub record KitView (N : Type 0) : Type 0 where
  pub nodes : N
  pub coming : Option (List ℕ)
  pub words : Option (List ℕ)
  pub words_faults : ℕ
  pub ticks : TicksView

abbrev pub round_places : Round → List ℕ
round_places x = x.places.items

abbrev pub is_full_end : RoundEnd → Bool
is_full_end (ends.TermFull ticket) = true
is_full_end _ = false

abbrev pub round_full : Round → Bool
round_full x = is_full_end x.end

-- no round comes behind one that ended so
abbrev pub ends_rounds : RoundEnd → Bool
ends_rounds ends.WordsFault = true
ends_rounds (ends.TermFull ticket) = true
ends_rounds ends.Stopped = true
ends_rounds _ = false

abbrev pub round_ends : Round → Bool
round_ends x = ends_rounds x.end

-- the worker ended by its last round
abbrev pub is_by_round : RoundsEnd → Bool
is_by_round causes.Round = true
is_by_round _ = false

module _ {N : Type 0} where
  -- what the clock and the source of words of a kit tell before and after
  abbrev pub told_of_kit : KitView N → KitView N → Told
  told_of_kit s s' = record { coming = s.coming; coming_after = s'.coming; words = s.words; words_after = s'.words; faults = s.words_faults; faults_after = s'.words_faults }

  -- a wait for a tick changes what is told of the ticks, and nothing else
  pub record KitBeats (s : KitView N) (beat : Beat) (s' : KitView N) : Type 0 where
    pub beats : Beats s.ticks beat s'.ticks
    pub rest : s' ≡ record s { ticks = s'.ticks }

  -- One round, from where its tick left the kit: it made just the entries that it names, at moments and with words of the
  -- kit's own, and took no tick; and it was as this says of the kit before the tick, whose ticks alone were others.
  pub record RoundDoes {K : Type 0} (Tells : KitView N → Round → List E → List E → KitView N → Type 0) (s : KitView N) (k : V K) (x : Round) (s' : KitView N) (k' : V K) : Type 0 where
    pub new : List E
    pub entered : Entered k new k'
    pub named : map place_of new ≡ round_places x
    pub full : round_full x ≡ true → Marked k'
    pub draws : Draws (told_of_kit s s') new
    pub ticks : s'.ticks ≡ s.ticks
    pub tells : (before : KitView N) → record before { ticks = s.ticks } ≡ s → Tells before x new k'.seen s'

  -- one round of a worker: a tick came, its calls were entered at moments and with words of the kit's own, and it was as this says
  pub record RoundTells (Tells : KitView N → Round → List E → List E → KitView N → Type 0) (s : KitView N) (x : Round) (new history : List E) (s' : KitView N) : Type 0 where
    pub not_over : s.ticks.over ≡ false
    pub ticks_are : s'.ticks ≡ record s.ticks { given = raised s.ticks.given }
    pub draws : Draws (told_of_kit s s') new
    pub tells : Tells s x new history s'

  abbrev pub RoundRuns : {K : Type 0} → (KitView N → Round → List E → List E → KitView N → Type 0) → KitView N → V K → List Round → KitView N → V K → Type 0
  RoundRuns Tells = Runs round_places round_full (RoundTells Tells)

  -- why the worker ended behind these rounds, and what its last wait changed
  abbrev pub RoundsClose : RoundsEnd → List Round → KitView N → KitView N → Type 0
  RoundsClose causes.Over xs s s' = s' ≡ record s { ticks = record s.ticks { over = true } }
  RoundsClose causes.Round xs s s' = (s' ≡ s) × ((front : List Round) × (x : Round) × (xs ≡ front ++ x ∷ []) × (ends_rounds x.end ≡ true))
  RoundsClose causes.NoMemory xs s s' = s' ≡ s

  -- a worker of rounds: its rounds, each from where the one before it ended, and then its last wait
  pub record RoundsRan {K : Type 0} (Tells : KitView N → Round → List E → List E → KitView N → Type 0) (s : KitView N) (k : V K) (xs : List Round) (end : RoundsEnd) (s' : KitView N) (k' : V K) : Type 0 where
    pub before_last : KitView N
    pub runs : RoundRuns Tells s k xs before_last k'
    pub closes : RoundsClose end xs before_last s'
    pub desk : k'.desk ≡ k.desk
    pub base : k'.base ≡ k.base
    -- it ended at the first round behind which none comes
    pub met : some_is round_ends xs ≡ is_by_round end
    -- what is told over a history holds over each that begins with it
    pub lasts : Lasts Tells
