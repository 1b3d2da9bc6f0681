-- A segment is made afresh from its sources, window by window: each source is asked that gave its share in all windows before.
use Rattle.std.specs.Prelude.{◌≡◌, ℕ, zero, suc, ◌+◌, ◌-◌, ◌/◌, ◌^◌, ◌<◌, ◌≤◌, ◌&&◌, ◌⊎◌, not, List, [], ◌∷◌, ◌++◌, length, map, filter, count_by, take, Option, Some, None}
use Rattle.sat_base.specs.declared.nodes.Ask.{Ask}
use Rattle.sat_base.specs.declared.nodes.Held.{Held}
use Rattle.sat_base.specs.declared.requests.Place.{Place}
use Rattle.sat_base.specs.declared.scheme.Scheme.{Scheme}
use Rattle.sat_base.specs.Nodes.{FetchesAll, CountsUnanswered, is_unanswered}
use Rattle.sat_base.specs.Outside.{with_end}
use Rattle.sat_base.specs.Scheme.{stripe_count}
use Rattle.repair_core.specs.declared.plan.RepairPlan.{RepairPlan}
use Rattle.repair_core.specs.declared.rebuilt.Remade.{Remade}
use Rattle.repair_core.specs.Indexes.{has_index, place_indexes}
use Rattle.repair_core.specs.Progress.{Progress}
use Rattle.repair_core.specs.Windows.{start_of, next_stripes, IsWindow, IsUnclearWindow}
use Rattle.node_asks.specs.declared.remaking.TheConstants.{WINDOW}
use Rattle.node_asks.specs.declared.remaking.Heeded.{Heeded}
use Rattle.node_asks.specs.declared.remaking.Sources.{Sources}
use Rattle.node_asks.specs.declared.remaking.Sorted.{Sorted}
use Rattle.node_asks.specs.declared.answers.Answered.{Answered}
use Rattle.node_asks.specs.Answers.{places_in, answers_in, shares_in, sharing_in, lacking_in}
use Rattle.node_asks.specs.Asks.{window_ask}

-- how far it has come
pub record Heeding : Type 0 where
  pub progress : Progress
  -- the sources that gave their share in every window so far, and the indexes of those whose piece was missing in one
  pub still : List Place
  pub gone : List ℕ
  -- how many gave no answer, and all that was asked
  pub silent : ℕ
  pub asks : List Ask

-- ---- one window

-- the sources answered, each of them; the unanswered are counted, by a count that doesn't end at its last value
pub record IsSorted (held : Option (List Held)) (asks : List Ask) (old : Sources) (faults later : ℕ) (sorted : Sorted) : Type 0 where
  pub all : List Answered
  pub places : places_in all ≡ old.still.items
  pub fetched : FetchesAll held asks (answers_in all)
  pub silent : CountsUnanswered (answers_in all) faults later
  pub shares : sorted.shares.items ≡ shares_in all
  pub still : sorted.sources.still.items ≡ sharing_in all
  pub gone : sorted.sources.gone.items ≡ old.gone.items ++ lacking_in all

abbrev pub window_asks : List ℕ → Scheme → RepairPlan → Heeding → List Ask
window_asks secret scheme plan now = map (window_ask secret scheme plan now.progress.done (next_stripes now.progress)) now.still

-- once its places have answered, and the rebuilding is so far
abbrev pub heeded : Heeding → List Ask → List Answered → Progress → Heeding
heeded old asks all progress = record {
  progress = progress;
  still = sharing_in all;
  gone = old.gone ++ lacking_in all;
  silent = old.silent + count_by is_unanswered (answers_in all);
  asks = old.asks ++ asks;
}

module _ (held : Option (List Held)) (secret : List ℕ) (scheme : Scheme) (plan : RepairPlan) where
  -- all that are still asked answered a window
  pub record AreAnswered (old : Heeding) (all : List Answered) : Type 0 where
    pub places : places_in all ≡ old.still
    pub fetched : FetchesAll held (window_asks secret scheme plan old) (answers_in all)

  -- a stripe is near the shares, for each stripe of the window, and the rebuilding goes on
  pub record IsHeeded (old new : Heeding) : Type 0 where
    pub all : List Answered
    pub answered : AreAnswered old all
    pub window : IsWindow old.progress (shares_in all) new.progress
    pub is_after : new ≡ heeded old (window_asks secret scheme plan old) all new.progress

  -- they are too few, or none is near them for some stripe, and the rebuilding ends
  pub record IsGivenUp (old new : Heeding) : Type 0 where
    pub all : List Answered
    pub answered : AreAnswered old all
    pub why : (length (shares_in all) < old.progress.k) ⊎ ((s : ℕ) × IsUnclearWindow old.progress (shares_in all) s)
    pub is_after : new ≡ heeded old (window_asks secret scheme plan old) all old.progress

  -- n windows lead from the one to the other
  abbrev pub Heeds : ℕ → Heeding → Heeding → Type 0
  Heeds zero start end = start ≡ end
  Heeds (suc n) start end =
      (before : Heeding) × Heeds n start before × (before.progress.done < before.progress.count) × IsHeeded before end

-- ---- the whole

abbrev pub heeding_of : Scheme → RepairPlan → List Place → Heeding
heeding_of scheme plan sources = record {
  progress = start_of scheme.k scheme.share scheme.n (WINDOW / scheme.share) (stripe_count scheme.k scheme.share plan.len)
      (place_indexes plan.sources) (place_indexes plan.targets);
  still = sources;
  gone = [];
  silent = 0;
  asks = [];
}

-- the blamed of what was made, if it was
abbrev pub blamed_of : Option Remade → List ℕ
blamed_of None = []
blamed_of (Some remade) = remade.blamed

-- all windows went through; or one of them was given up
abbrev pub Ends : Option (List Held) → List ℕ → Scheme → RepairPlan → List Place → Option Remade → Heeding → Type 0
Ends held secret scheme plan sources (Some remade) end =
    ((n : ℕ) × Heeds held secret scheme plan n (heeding_of scheme plan sources) end)
    × (end.progress.done ≡ end.progress.count) × (remade.blamed ≡ end.progress.blamed) × (remade.fresh ≡ end.progress.fresh)
Ends held secret scheme plan sources None end =
    (n : ℕ) × (before : Heeding) × Heeds held secret scheme plan n (heeding_of scheme plan sources) before
    × (before.progress.done < before.progress.count) × IsGivenUp held secret scheme plan before end

-- what is handed back of the end: who answered in every window, and who was missing in one and isn't blamed
pub record IsRemade (held : Option (List Held)) (secret : List ℕ) (scheme : Scheme) (plan : RepairPlan) (sources : List Place) (result : Heeded) (end : Heeding) : Type 0 where
  pub ends : Ends held secret scheme plan sources result.made end
  pub answered : result.answered ≡ map (λ place. place.index) end.still
  pub missing : result.missing ≡ filter (λ index. has_index end.gone index && not (has_index (blamed_of result.made) index)) (place_indexes plan.sources)

-- those without an answer are counted, by a count that doesn't end at its last value
abbrev pub CountsSilent : ℕ → ℕ → ℕ → Type 0
CountsSilent silent old new = new < 2 ^ 64 - 1 → old + silent ≤ new

-- so a repair asked, and came to its end
pub record Remakes (held : Option (List Held)) (old new : Option (List Ask)) (secret : List ℕ) (scheme : Scheme) (plan : RepairPlan) (sources : List Place) (faults later : ℕ) (result : Heeded) : Type 0 where
  pub end : Heeding
  pub is : IsRemade held secret scheme plan sources result end
  pub asks : new ≡ with_end old end.asks
  pub silent : CountsSilent end.silent faults later

-- some of the asks of a window were made behind all those of the windows before it
pub record StopsAsking (held : Option (List Held)) (old new : Option (List Ask)) (secret : List ℕ) (scheme : Scheme) (plan : RepairPlan) (sources : List Place) : Type 0 where
  pub windows : ℕ
  pub before : Heeding
  pub reached : Heeds held secret scheme plan windows (heeding_of scheme plan sources) before
  pub sent : ℕ
  pub asks : new ≡ with_end old (before.asks ++ take sent (window_asks secret scheme plan before))
