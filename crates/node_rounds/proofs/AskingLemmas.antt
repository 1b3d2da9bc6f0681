-- What comes of asking the nodes of a plan, put together.
use Rattle.std.proofs.Common.{◌≡◌, ℕ, false, true, List, Option, Some, None, Result, Ok, Err, refl, sym, ap, ◌∙◌, subst}
use Rattle.std.specs.Prelude.{All, IfOk, OnErr}
use Rattle.sat_base.specs.declared.nodes.Ask.{Ask}
use Rattle.sat_base.specs.declared.nodes.Fetched.{Fetched}
use Rattle.sat_base.specs.declared.nodes.Fetched.TheVariants as fetches
use Rattle.sat_base.specs.declared.requests.Place.{Place}
use Rattle.sat_base.specs.declared.scheme.Scheme.{Scheme}
use Rattle.sat_base.specs.Nodes.{Fetches, FetchesWithin, fetch_asks, is_unanswered}
use Rattle.sat_base.specs.Outside.{CountsExactly, with_end}
use Rattle.sat_base.proofs.Told.{with_end-none}
use Rattle.bw_decode.specs.Near.{Rises}
use Rattle.audit_core.specs.declared.rechecking.Checked.{Checked}
use Rattle.audit_core.specs.declared.rechecking.RecheckPlan.{RecheckPlan}
use Rattle.audit_core.specs.Heard.{is_out_of_memory}
use Rattle.audit_core.specs.Recheck.{checked}
use Rattle.repair_core.specs.declared.outcome.RepairOutcome.{RepairOutcome}
use Rattle.repair_core.specs.declared.outcome.Unmended.{Unmended}
use Rattle.repair_core.specs.declared.outcome.RepairOutcome.TheVariants as repairs
use Rattle.repair_core.specs.declared.plan.RepairPlan.{RepairPlan}
use Rattle.repair_core.specs.declared.rebuilt.Remade.{Remade}
use Rattle.repair_core.specs.Indexes.{has_index, place_indexes}
use Rattle.node_asks.specs.Asks.{recheck_ask}
use Rattle.node_asks.specs.Ending.{IsConcluded, Told}
use Rattle.node_asks.specs.Remaking.{Remakes, blamed_of}
use Rattle.node_asks.specs.Telling.{AreSources, CanSpread}
use Rattle.node_asks.specs.declared.remaking.Heeded.{Heeded}
use Rattle.node_asks.proofs.SourceLemmas.{remade_fresh, remade_sources}
use Rattle.askable_plans.specs.Askable.{IsRecheckable, IsRepairable}
use Rattle.node_rounds.specs.declared.kit.NodesView.{NodesView}
use Rattle.node_rounds.specs.Askable.{IsMendedAs}
use Rattle.node_rounds.specs.Asked.{IsEnded, IsGathered, IsRechecked, IsRepaired}
use Rattle.sat_base.proofs.Fetches.{asked_once}

pub if_ok : {T E : Type 0} (P Q : T → Type 0) (r : Result T E) → IfOk r P → ((x : T) → P x → Q x) → IfOk r Q
if_ok P Q (Ok x) p f = f x p
if_ok P Q (Err e) p f = tt

pub if_err : {T E : Type 0} (P Q : Type 0) (r : Result T E) → OnErr r P → (P → Q) → OnErr r Q
if_err P Q (Ok x) p f = tt
if_err P Q (Err e) p f = f p

-- ---- a recheck

pub not_wanting : (fetched : Fetched) → (fetched ≡ fetches.NoMemory → ⊥) → is_out_of_memory fetched ≡ false
not_wanting (fetches.Share bytes) other = refl
not_wanting fetches.Missing other = refl
not_wanting fetches.NoAnswer other = refl
not_wanting fetches.NoMemory other = absurd (other refl)

pub same_view : (old new : NodesView) → new.held ≡ old.held → new.asks ≡ old.asks → new.faults ≡ old.faults → new ≡ old
same_view old new held asks faults = λ i. record { held = held i; asks = asks i; faults = faults i }

-- for lack of memory nothing was asked
pub unasked : (ask : Ask) (fetched : Fetched) (old new : NodesView) → fetched ≡ fetches.NoMemory → new.held ≡ old.held → new.asks ≡ with_end old.asks (fetch_asks ask fetched)
    → CountsExactly (is_unanswered fetched) old.faults new.faults → new ≡ old
unasked ask (fetches.Share bytes) old new is held asks counts = absurd (cc)
unasked ask fetches.Missing old new is held asks counts = absurd (cc)
unasked ask fetches.NoAnswer old new is held asks counts = absurd (cc)
unasked ask fetches.NoMemory old new is held asks counts = same_view old new held (asks ∙ with_end-none old.asks) counts

pub rechecked : (secret : List ℕ) (scheme : Scheme) (plan : RecheckPlan) (place : Place) (old : NodesView) (fetched : Fetched) (new : NodesView) (found : Checked) → IsRecheckable plan place
    → Fetches old.held (recheck_ask secret scheme plan place) fetched → FetchesWithin (recheck_ask secret scheme plan place) fetched → new.asks ≡ with_end old.asks (fetch_asks (recheck_ask secret scheme plan place) fetched)
    → CountsExactly (is_unanswered fetched) old.faults new.faults → new.held ≡ old.held → is_out_of_memory fetched ≡ false → found ≡ checked plan.expect fetched → IsRechecked secret scheme plan place old found new
rechecked secret scheme plan place old fetched new found can told within asks counts held given is = record {
  can = can;
  fetched = fetched;
  told = told;
  within = within;
  given = given;
  asks = asks ∙ ap (with_end old.asks) (asked_once (recheck_ask secret scheme plan place) fetched given);
  counted = counts;
  held = held;
  found_is = is;
}

-- ---- a repair

pub told_by : (plan : RepairPlan) (blamed answered placed missing : List ℕ) → AreSources plan blamed answered missing → Rises placed → All (λ index. has_index (place_indexes plan.targets) index ≡ true) placed
    → Told plan blamed answered placed missing
told_by plan blamed answered placed missing s rises among = record {
  sources_rise = s.sources_rise;
  blamed_rise = s.blamed_rise;
  answered_rise = s.answered_rise;
  placed_rise = rises;
  missing_rise = s.missing_rise;
  blamed_of_sources = s.blamed_of_sources;
  answered_of_sources = s.answered_of_sources;
  placed_at_targets = among;
  missing_of_sources = s.missing_of_sources;
  missing_silent = s.missing_silent;
  missing_apart = s.missing_apart;
}

pub concluded_by : (scheme : Scheme) (plan : RepairPlan) (blamed answered placed missing : List ℕ) (outcome : RepairOutcome) → IsConcluded scheme plan blamed answered placed missing outcome → IsMendedAs scheme outcome
concluded_by scheme plan blamed answered placed missing (repairs.Mended mended) is = is.1
concluded_by scheme plan blamed answered placed missing (repairs.Unmended unmended) is = tt

module _ (secret : List ℕ) (scheme : Scheme) (plan : RepairPlan) (sources targets : List Place) where
  -- who answered, who is blamed and who is missing is among the sources
  pub are_sources : (old between : NodesView) (heeded : Heeded) → IsRepairable scheme plan sources targets → Remakes old.held old.asks between.asks secret scheme plan sources old.faults between.faults heeded
      → AreSources plan (blamed_of heeded.made) heeded.answered heeded.missing
  are_sources old between heeded can remakes = remade_sources old.held secret scheme plan sources can.sources_are can.sources_rise old.asks between.asks old.faults between.faults heeded remakes

  -- what was made of the sources can be put at the targets
  pub can_spread : (old between : NodesView) (heeded : Heeded) (remade : Remade) → IsRepairable scheme plan sources targets
      → Remakes old.held old.asks between.asks secret scheme plan sources old.faults between.faults heeded → heeded.made ≡ Some remade → CanSpread scheme plan targets heeded.answered heeded.missing remade
  can_spread old between heeded remade can remakes made = record {
    targets_are = can.targets_are;
    targets_rise = can.targets_rise;
    len = can.len;
    fresh = remade_fresh old.held secret scheme plan sources can.sources_are can.sources_rise targets old.asks between.asks old.faults between.faults heeded remade remakes made can.targets_are;
    told = subst (λ (m : Option Remade). AreSources plan (blamed_of m) heeded.answered heeded.missing) made (are_sources old between heeded can remakes);
  }

  pub repaired : (old between : NodesView) (heeded : Heeded) (made : Option Remade) (outcome : RepairOutcome) (new : NodesView) → heeded.made ≡ made → IsRepairable scheme plan sources targets
      → IsGathered secret scheme plan sources old heeded between → IsEnded secret scheme plan targets heeded made between outcome new → IsRepaired secret scheme plan sources targets old outcome new
  repaired old between heeded made outcome new same can gathered ended = record {
    can = can;
    heeded = heeded;
    between = between;
    gathered = gathered;
    ended = subst (λ (m : Option Remade). IsEnded secret scheme plan targets heeded m between outcome new) (sym same) ended;
  }

  -- nothing was made
  pub repaired_none : (old between : NodesView) (heeded : Heeded) (unmended : Unmended) → heeded.made ≡ None → IsRepairable scheme plan sources targets → IsGathered secret scheme plan sources old heeded between
      → unmended.plan ≡ plan → unmended.missing ≡ heeded.missing → IsRepaired secret scheme plan sources targets old (repairs.Unmended unmended) between
  repaired_none old between heeded unmended same can gathered plan_is missing_is = repaired old between heeded None (repairs.Unmended unmended) between same can gathered (refl, (plan_is, missing_is))
