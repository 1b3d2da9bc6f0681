-- A round: two parts, the second where the first didn't end it.
use Rattle.std.specs.Prelude.{◌≡◌, ℕ, List, [], ◌++◌, map, Option, Some, None}
use Rattle.std.specs.Global.{Vec}
use Rattle.sat_base.specs.declared.scheme.Scheme.{Scheme}
use Rattle.turnstile.specs.History.{Each}
use Rattle.desk_runs.specs.Entered.{At, Entered, place_of}
use Rattle.sat_book.specs.Legal.{E}
use Rattle.sat_sessions.specs.Draws.{Draws}
use Rattle.sat_sessions.specs.Rounds.{round_places, told_of_kit}
use Rattle.sat_sessions.specs.Sessions.{V}
use Rattle.sat_sessions.specs.declared.rounds.Round.{Round}
use Rattle.sat_sessions.specs.declared.rounds.RoundEnd.{RoundEnd}
use Rattle.node_rounds.specs.declared.upkeep.Upkeep.{Upkeep}
use Rattle.node_rounds.specs.Calls.{AreLawful, IfFull, Makes}
use Rattle.node_rounds.specs.Clauses.{CountsUnanswered}
use Rattle.node_rounds.specs.Held.{HoldOpen}
use Rattle.node_rounds.specs.Parts.{S, Part}
use Rattle.node_rounds.specs.Upkeep.{end_of}

module _ (secret : List ℕ) (scheme : Scheme) where
  -- one part of a round, and the entries that it made
  pub record Does {K : Type 0} (kind : Upkeep) (s : S) (k : V K) (went : Option RoundEnd) (s' : S) (k' : V K) (old_places new_places : Vec ℕ) : Type 0 where
    pub new : List E
    pub makes : Makes k new went k' old_places new_places
    pub part : Part secret scheme kind s new went s'

  -- the second part, behind a first one that went so
  abbrev pub Goes : Upkeep → Option RoundEnd → S → List E → RoundEnd → S → Type 0
  Goes second (Some why) s others end s' = (others ≡ []) × (end ≡ why) × (s' ≡ s)
  Goes second None s others end s' = (went : Option RoundEnd) × Part secret scheme second s others went s' × (end ≡ end_of went)

  -- what a round of two parts did: its entries, in order, what was asked between them, and how it ended
  pub record Works (first second : Upkeep) (s : S) (new : List E) (end : RoundEnd) (s' : S) : Type 0 where
    pub ones : List E
    pub others : List E
    pub new_is : new ≡ ones ++ others
    pub between : S
    pub went : Option RoundEnd
    pub begins : Part secret scheme first s ones went between
    pub goes : Goes second went between others end s'

  -- A round: it entered just the entries that it names, and what the pass has seen is then a history of the book. Its moments
  -- and words are those that its clock and source gave.
  pub record Rounds {K : Type 0} (first second : Upkeep) (s : S) (k : V K) (x : Round) (s' : S) (k' : V K) : Type 0 where
    pub new : List E
    pub entered : Entered k new k'
    pub named : map place_of new ≡ round_places x
    pub lawful : AreLawful k new k'
    pub stand : Each (λ e. At k'.seen e.place e) new
    -- the plan of an accepted end is the one that was open
    pub held : HoldOpen k.base k'.seen new
    pub full : IfFull k (Some x.end) k'
    pub works : Works first second s new x.end s'
    pub draws : Draws (told_of_kit s s') new
    pub ticks : s'.ticks ≡ s.ticks
    -- the nodes that it calls silent, and the targets that it doesn't tell as placed, are counted
    pub counted : CountsUnanswered new s.nodes.faults s'.nodes.faults
