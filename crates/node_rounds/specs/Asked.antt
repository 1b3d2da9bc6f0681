-- What comes of asking the nodes of a plan, between what they tell before and after it.
use Rattle.std.specs.Prelude.{◌≡◌, ◌⊎◌, ℕ, ◌-◌, ◌^◌, ◌≤◌, false, List, [], ◌∷◌, length, map, Option, Some, None, Result, Ok, Err}
use Rattle.sat_base.specs.declared.no_memory.NoMemory.{NoMemory}
use Rattle.sat_base.specs.declared.nodes.Ask.{Ask}
use Rattle.sat_base.specs.declared.nodes.Fetched.{Fetched}
use Rattle.sat_base.specs.declared.nodes.Held.{Held}
use Rattle.sat_base.specs.declared.requests.Place.{Place}
use Rattle.sat_base.specs.declared.scheme.Scheme.{Scheme}
use Rattle.sat_base.specs.Nodes.{AsksSome, CountsUnanswered, Fetches, FetchesWithin, is_unanswered}
use Rattle.sat_base.specs.Outside.{CountsExactly, with_end}
use Rattle.audit_core.specs.declared.plan.AuditPlan.{AuditPlan}
use Rattle.audit_core.specs.declared.plan.Heard.{Heard}
use Rattle.audit_core.specs.declared.rechecking.Checked.{Checked}
use Rattle.audit_core.specs.declared.rechecking.RecheckPlan.{RecheckPlan}
use Rattle.audit_core.specs.declared.verdict.Judged.{Judged}
use Rattle.audit_core.specs.Heard.{answers_of, is_out_of_memory, missing_of, silent_of}
use Rattle.audit_core.specs.Recheck.{checked}
use Rattle.audit_core.specs.Verdict.{silent_indexes}
use Rattle.repair_core.specs.declared.outcome.RepairOutcome.{RepairOutcome}
use Rattle.repair_core.specs.declared.outcome.RepairOutcome.TheVariants as repairs
use Rattle.repair_core.specs.declared.plan.RepairPlan.{RepairPlan}
use Rattle.repair_core.specs.declared.rebuilt.Remade.{Remade}
use Rattle.machine_calls.specs.declared.reply.Reply.{Reply}
use Rattle.machine_calls.specs.declared.reply.Reply.TheVariants as replies
use Rattle.node_asks.specs.Asks.{audit_asks, put_ask, recheck_ask}
use Rattle.node_asks.specs.Ending.{IsConcluded}
use Rattle.node_asks.specs.Hearing.{IsHeard, fetched_in}
use Rattle.node_asks.specs.Remaking.{Remakes, StopsAsking}
use Rattle.node_asks.specs.Spreading.{CountsLeftOut, Spreads}
use Rattle.node_asks.specs.declared.remaking.Heeded.{Heeded}
use Rattle.askable_plans.specs.Askable.{IsAuditable, IsRecheckable, IsRepairable}
use Rattle.node_rounds.specs.declared.kit.NodesView.{NodesView}
use Rattle.node_rounds.specs.declared.upkeep.Found.{Found}
use Rattle.node_rounds.specs.declared.upkeep.Found.TheVariants as founds

abbrev pub nodes_view : {N : Type 0} → (N → Option (List Held)) → (N → Option (List Ask)) → (N → ℕ) → N → NodesView
nodes_view held asks faults nodes = record { held = held nodes; asks = asks nodes; faults = faults nodes }

-- a count of asks without an answer never falls, and stands still at the end of its type
pub record NeverFalls (old new : NodesView) : Type 0 where
  pub counts : old.faults ≤ new.faults
  pub last : old.faults ≡ 2 ^ 64 - 1 → new.faults ≡ 2 ^ 64 - 1

-- ---- an audit: all asked places at once

pub record IsAudited (secret : List ℕ) (scheme : Scheme) (plan : AuditPlan) (places : List Place) (old : NodesView) (judged : Judged) (new : NodesView) : Type 0 where
  pub can : IsAuditable scheme plan places
  pub heard : List Heard
  pub is_heard : IsHeard old.held (audit_asks secret scheme plan places) places heard
  pub silent : CountsUnanswered (fetched_in heard) old.faults new.faults
  pub asks : new.asks ≡ with_end old.asks (audit_asks secret scheme plan places)
  pub held : new.held ≡ old.held
  pub scheme_is : judged.scheme ≡ scheme
  pub plan_is : judged.plan ≡ plan
  pub answers : judged.answers ≡ answers_of heard
  pub missing : judged.missing ≡ missing_of heard
  pub silent_are : silent_indexes judged.silent ≡ silent_of heard

pub record StopsAuditing (secret : List ℕ) (scheme : Scheme) (plan : AuditPlan) (places : List Place) (old new : NodesView) : Type 0 where
  pub asks : AsksSome old.asks (audit_asks secret scheme plan places) new.asks
  pub held : new.held ≡ old.held

-- ---- a recheck: the one place

pub record IsRechecked (secret : List ℕ) (scheme : Scheme) (plan : RecheckPlan) (place : Place) (old : NodesView) (found : Checked) (new : NodesView) : Type 0 where
  pub can : IsRecheckable plan place
  pub fetched : Fetched
  pub told : Fetches old.held (recheck_ask secret scheme plan place) fetched
  pub within : FetchesWithin (recheck_ask secret scheme plan place) fetched
  pub given : is_out_of_memory fetched ≡ false
  pub asks : new.asks ≡ with_end old.asks (recheck_ask secret scheme plan place ∷ [])
  pub counted : CountsExactly (is_unanswered fetched) old.faults new.faults
  pub held : new.held ≡ old.held
  pub found_is : found ≡ checked plan.expect fetched

-- ---- a repair, or the move of a piece: the sources by windows, and then the targets

-- nothing was made
abbrev pub IsUnmended : RepairPlan → List ℕ → RepairOutcome → Type 0
IsUnmended plan missing (repairs.Mended mended) = ⊥
IsUnmended plan missing (repairs.Unmended unmended) = (unmended.plan ≡ plan) × (unmended.missing ≡ missing)

-- fresh pieces were made and put at their targets, and this is how the repair ends
pub record IsSpreadOut (secret : List ℕ) (scheme : Scheme) (plan : RepairPlan) (targets : List Place) (heeded : Heeded) (remade : Remade) (old : NodesView) (outcome : RepairOutcome) (new : NodesView) : Type 0 where
  pub placed : List ℕ
  pub spread : Spreads old.held plan.segment targets remade.fresh new.held placed
  pub left_out : CountsLeftOut (length targets) (length placed) old.faults new.faults
  pub asks : new.asks ≡ with_end old.asks (map (put_ask secret scheme plan) targets)
  pub concluded : IsConcluded scheme plan remade.blamed heeded.answered placed heeded.missing outcome

abbrev pub IsEnded : List ℕ → Scheme → RepairPlan → List Place → Heeded → Option Remade → NodesView → RepairOutcome → NodesView → Type 0
IsEnded secret scheme plan targets heeded None old outcome new = (new ≡ old) × IsUnmended plan heeded.missing outcome
IsEnded secret scheme plan targets heeded (Some remade) old outcome new = IsSpreadOut secret scheme plan targets heeded remade old outcome new

pub record IsGathered (secret : List ℕ) (scheme : Scheme) (plan : RepairPlan) (sources : List Place) (old : NodesView) (heeded : Heeded) (new : NodesView) : Type 0 where
  pub remade : Remakes old.held old.asks new.asks secret scheme plan sources old.faults new.faults heeded
  pub held : new.held ≡ old.held
  pub never : NeverFalls old new

pub record IsRepaired (secret : List ℕ) (scheme : Scheme) (plan : RepairPlan) (sources targets : List Place) (old : NodesView) (outcome : RepairOutcome) (new : NodesView) : Type 0 where
  pub can : IsRepairable scheme plan sources targets
  pub heeded : Heeded
  pub between : NodesView
  pub gathered : IsGathered secret scheme plan sources old heeded between
  pub ended : IsEnded secret scheme plan targets heeded heeded.made between outcome new

-- memory ran out among the sources; or later, when pieces were made, perhaps among the targets
pub record StopsGathering (secret : List ℕ) (scheme : Scheme) (plan : RepairPlan) (sources : List Place) (old new : NodesView) : Type 0 where
  pub asks : StopsAsking old.held old.asks new.asks secret scheme plan sources
  pub held : new.held ≡ old.held

pub record StopsSpreading (secret : List ℕ) (scheme : Scheme) (plan : RepairPlan) (sources targets : List Place) (old new : NodesView) : Type 0 where
  pub heeded : Heeded
  pub between : NodesView
  pub gathered : IsGathered secret scheme plan sources old heeded between
  pub asks : AsksSome between.asks (map (put_ask secret scheme plan) targets) new.asks

abbrev pub StopsRepairing : List ℕ → Scheme → RepairPlan → List Place → List Place → NodesView → NodesView → Type 0
StopsRepairing secret scheme plan sources targets old new = StopsGathering secret scheme plan sources old new ⊎ StopsSpreading secret scheme plan sources targets old new

-- ---- whatever was planned

module _ (secret : List ℕ) (scheme : Scheme) where
  -- the nodes of the reply's plan were asked, and this is what was found; or memory ran out
  abbrev pub Finds : Reply → NodesView → Result Found NoMemory → NodesView → Type 0
  Finds (replies.AuditPlanned plan places) old (Ok (founds.Audit judged)) new = IsAudited secret scheme plan places old judged new
  Finds (replies.AuditPlanned plan places) old (Err none) new = StopsAuditing secret scheme plan places old new
  Finds (replies.RecheckPlanned plan place) old (Ok (founds.Recheck asked found)) new = (asked ≡ plan) × IsRechecked secret scheme plan place old found new
  Finds (replies.RecheckPlanned plan place) old (Err none) new = new ≡ old
  Finds (replies.RepairPlanned plan sources targets) old (Ok (founds.Repair outcome)) new = IsRepaired secret scheme plan sources targets old outcome new
  Finds (replies.RepairPlanned plan sources targets) old (Err none) new = StopsRepairing secret scheme plan sources targets old new
  Finds (replies.ExitPlanned exit sources target) old (Ok (founds.Exit outcome)) new = IsRepaired secret scheme exit.plan sources (target ∷ []) old outcome new
  Finds (replies.ExitPlanned exit sources target) old (Err none) new = StopsRepairing secret scheme exit.plan sources (target ∷ []) old new
  Finds _ old result new = ⊥
