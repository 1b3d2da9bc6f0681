-- A round of a tally: one call, at the clock's next moment. It asks no node and draws no word.
use Rattle.std.specs.Prelude.{◌≡◌, ℕ, List, [], ◌∷◌, map, Option, Some}
use Rattle.sat_base.specs.Ticks.{TicksView}
use Rattle.turnstile.specs.History.{Each}
use Rattle.desk_runs.specs.Entered.{At, Entered, place_of}
use Rattle.machine_calls.specs.declared.call.Call.TheVariants as calls
use Rattle.machine_calls.specs.declared.task.Task.TheVariants as tasks
use Rattle.sat_book.specs.Legal.{E}
use Rattle.sat_book.specs.declared.opening.Opening.{Opening}
use Rattle.sat_sessions.specs.Draws.{Draws, as_moment}
use Rattle.sat_sessions.specs.Rounds.{KitView, round_places, told_of_kit}
use Rattle.sat_sessions.specs.Sessions.{V}
use Rattle.sat_sessions.specs.declared.rounds.Round.{Round}
use Rattle.sat_sessions.specs.declared.rounds.RoundEnd.{RoundEnd}
use Rattle.sat_sessions.specs.declared.rounds.RoundEnd.TheVariants as ends
use Rattle.node_rounds.specs.Calls.{AreLawful, IfFull}
use Rattle.node_rounds.specs.Parts.{Timed}
use Rattle.node_rounds.specs.Upkeep.{end_of, went_at}
use Rattle.node_rounds.specs.declared.tally.TallyKit.{TallyKit}

-- what is told of a kit of tallies: it has no nodes, and no words
abbrev pub tally_view : {T I : Type 0} → (T → Option (List ℕ)) → (I → TicksView) → TallyKit T I → KitView (Unit {0})
tally_view coming about kit = record { nodes = tt; coming = coming kit.clock; words = Some []; words_faults = 0; ticks = about kit.ticks }

-- why nothing was entered: the term is full at a moment of the clock, or memory ran out before one was taken
abbrev pub Untallied : KitView (Unit {0}) → RoundEnd → KitView (Unit {0}) → Type 0
Untallied s (ends.TermFull ticket) s' = (moment : ℕ) × Timed s moment s'
Untallied s ends.NoMemory s' = s' ≡ s
Untallied s _ s' = ⊥

-- the call was entered at the clock's next moment, and its reply says how the round ends
pub record Tallied (s : KitView (Unit {0})) (e : E) (end : RoundEnd) (s' : KitView (Unit {0})) : Type 0 where
  pub moment : ℕ
  pub timed : Timed s moment s'
  pub call : e.call ≡ calls.Own (as_moment moment) tasks.TallyHour
  pub end_is : end ≡ end_of (went_at e.reply)

-- what a round did: at most one entry, and how it ended
abbrev pub TallyWorks : KitView (Unit {0}) → List E → RoundEnd → KitView (Unit {0}) → Type 0
TallyWorks s [] end s' = Untallied s end s'
TallyWorks s (e ∷ []) end s' = Tallied s e end s'
TallyWorks s (e ∷ f ∷ more) end s' = ⊥

-- A round: it entered just the entry that it names, and what the pass has seen is then a history of the book. Its moment is
-- one that its clock gave.
pub record TallyRounds {K : Type 0} (s : KitView (Unit {0})) (k : V K) (x : Round) (s' : KitView (Unit {0})) (k' : V K) : Type 0 where
  pub new : List E
  pub entered : Entered k new k'
  pub named : map place_of new ≡ round_places x
  pub lawful : AreLawful k new k'
  pub stand : Each (λ e. At k'.seen e.place e) new
  pub full : IfFull k (Some x.end) k'
  pub works : TallyWorks s new x.end s'
  pub draws : Draws (told_of_kit s s') new
  pub ticks : s'.ticks ≡ s.ticks

-- what is told of each round of a worker, over each history in which its entry stands: what it did, from where its tick left
-- the kit
abbrev pub TallyTells : Option Opening → KitView (Unit {0}) → Round → List E → List E → KitView (Unit {0}) → Type 0
TallyTells opening s x new history s' = TallyWorks (record s { ticks = s'.ticks }) new x.end s'
