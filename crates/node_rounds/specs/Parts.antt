-- One part of a round: a plan is entered, its nodes are asked, and its end is entered.
use Rattle.std.specs.Prelude.{◌≡◌, ℕ, ◌<◌, List, [], ◌∷◌, length, Bool, true, false, Option, Some, None, Result, Ok, Err}
use Rattle.sat_base.specs.declared.no_memory.NoMemory.{NoMemory as NoRoom}
use Rattle.sat_base.specs.declared.scheme.Scheme.{Scheme}
use Rattle.sat_base.specs.Clock.{or_zero}
use Rattle.sat_base.specs.Outside.{CountsExactly, with_front}
use Rattle.sat_base.specs.Ticks.{TicksView}
use Rattle.machine_calls.specs.declared.reply.Reply.{Reply}
use Rattle.sat_book.specs.Legal.{E}
use Rattle.sat_sessions.specs.Draws.{as_moment}
use Rattle.sat_sessions.specs.Rounds.{KitView}
use Rattle.sat_sessions.specs.declared.rounds.RoundEnd.{RoundEnd}
use Rattle.sat_sessions.specs.declared.rounds.RoundEnd.TheVariants as ends
use Rattle.node_rounds.specs.declared.kit.Kit.{Kit}
use Rattle.node_rounds.specs.declared.kit.NodesView.{NodesView}
use Rattle.node_rounds.specs.declared.upkeep.Found.{Found}
use Rattle.node_rounds.specs.declared.upkeep.Upkeep.{Upkeep}
use Rattle.node_rounds.specs.Asked.{Finds, NeverFalls}
use Rattle.node_rounds.specs.Upkeep.{end_call, is_plan_of, plan_call, went_at, words_of}

-- what is told of a kit
abbrev pub S : Type 0
S = KitView NodesView

abbrev pub kit_view : {N T W I : Type 0} → (N → NodesView) → (T → Option (List ℕ)) → (W → Option (List ℕ)) → (W → ℕ) → (I → TicksView) → Kit N T W I → S
kit_view nodes coming left faults about kit = record { nodes = nodes kit.nodes; coming = coming kit.clock; words = left kit.words; words_faults = faults kit.words; ticks = about kit.ticks }

-- ---- what is taken of a kit

-- the next words were drawn, so many
pub record Drew (number : ℕ) (s : S) (drawn : List ℕ) (s' : S) : Type 0 where
  pub number_is : length drawn ≡ number
  pub words : s.words ≡ with_front drawn s'.words
  pub rest : s' ≡ record s { words = s'.words }

-- fewer came, since a draw failed
pub record Lacked (number : ℕ) (s s' : S) : Type 0 where
  pub drawn : List ℕ
  pub few : length drawn < number
  pub words : s.words ≡ with_front drawn s'.words
  pub faults : CountsExactly true s.words_faults s'.words_faults
  pub rest : s' ≡ record s { words = s'.words; words_faults = s'.words_faults }

-- the clock's next moment was taken, whatever is told of nodes
pub record Timed {N : Type 0} (s : KitView N) (moment : ℕ) (s' : KitView N) : Type 0 where
  pub timed : or_zero s.coming ≡ with_front (moment ∷ []) s'.coming
  pub rest : s' ≡ record s { coming = s'.coming }

-- ---- a part

-- words ran out, or memory for them
abbrev pub FailsToDraw : ℕ → S → RoundEnd → S → Type 0
FailsToDraw number s ends.NoMemory s' = s' ≡ s
FailsToDraw number s ends.WordsFault s' = Lacked number s s'
FailsToDraw number s _ s' = ⊥

-- the words and the moment of a plan were taken
pub record Readied (kind : Upkeep) (s : S) (drawn : List ℕ) (moment : ℕ) (s' : S) : Type 0 where
  pub between : S
  pub drew : Drew (words_of kind) s drawn between
  pub timed : Timed between moment s'

-- no plan was entered, and why
abbrev pub Unplanned : Upkeep → S → RoundEnd → S → Type 0
Unplanned kind s (ends.TermFull ticket) s' = (drawn : List ℕ) × (moment : ℕ) × Readied kind s drawn moment s'
Unplanned kind s end s' = FailsToDraw (words_of kind) s end s'

module _ (secret : List ℕ) (scheme : Scheme) where
  -- the nodes of a plan were asked
  pub record Asks (reply : Reply) (s : S) (found : Result Found NoRoom) (s' : S) : Type 0 where
    pub finds : Finds secret scheme reply s.nodes found s'.nodes
    pub never : NeverFalls s.nodes s'.nodes
    pub rest : s' ≡ record s { nodes = s'.nodes }

  -- the end of a plan was entered: what was found, at the clock's next moment
  pub record Ends (reply : Reply) (s : S) (e : E) (went : Option RoundEnd) (s' : S) : Type 0 where
    pub found : Found
    pub between : S
    pub asks : Asks reply s (Ok found) between
    pub moment : ℕ
    pub timed : Timed between moment s'
    pub call : e.call ≡ end_call found (as_moment moment)
    pub went_is : went ≡ went_at e.reply

  -- it wasn't, and why: memory ran out, or the term is full
  abbrev pub Unended : Reply → S → Option RoundEnd → S → Type 0
  Unended reply s (Some ends.NoMemory) s' = (none : NoRoom) × Asks reply s (Err none) s'
  Unended reply s (Some (ends.TermFull ticket)) s' = (found : Found) × (between : S) × (moment : ℕ) × Asks reply s (Ok found) between × Timed between moment s'
  Unended reply s _ s' = ⊥

  -- the reply holds a plan, behind which these entries were made
  abbrev pub Planned : Reply → S → List E → Option RoundEnd → S → Type 0
  Planned reply s [] went s' = Unended reply s went s'
  Planned reply s (e ∷ []) went s' = Ends reply s e went s'
  Planned reply s (e ∷ f ∷ more) went s' = ⊥

  -- the reply holds none, and nothing is asked
  abbrev pub Passed : Reply → S → List E → Option RoundEnd → S → Type 0
  Passed reply s rest went s' = (rest ≡ []) × (went ≡ went_at reply) × (s' ≡ s)

  abbrev pub Follows : Bool → Reply → S → List E → Option RoundEnd → S → Type 0
  Follows true reply s rest went s' = Planned reply s rest went s'
  Follows false reply s rest went s' = Passed reply s rest went s'

  -- a plan was entered, with words and at a moment of the kit's, and what followed
  pub record Plans (kind : Upkeep) (s : S) (p : E) (rest : List E) (went : Option RoundEnd) (s' : S) : Type 0 where
    pub drawn : List ℕ
    pub moment : ℕ
    pub ready : S
    pub readied : Readied kind s drawn moment ready
    pub call : p.call ≡ plan_call kind (as_moment moment) drawn
    pub follows : Follows (is_plan_of kind p.reply) p.reply ready rest went s'

  -- one part made these entries, and went on or ended the round
  abbrev pub Part : Upkeep → S → List E → Option RoundEnd → S → Type 0
  Part kind s [] None s' = ⊥
  Part kind s [] (Some end) s' = Unplanned kind s end s'
  Part kind s (p ∷ rest) went s' = Plans kind s p rest went s'
