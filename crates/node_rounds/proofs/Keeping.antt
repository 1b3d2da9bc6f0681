-- A mended repair of a round keeps the bytes of a named segment.
use Rattle.std.proofs.Common.{◌≡◌, ℕ, ◌+◌, ◌≤◌, List, length, Option, Some, None, refl, sym, ap, ◌∙◌, subst}
use Rattle.std.specs.Prelude.{◌&&◌, not, filter, map, slice_get, true}
use Rattle.sat_base.specs.declared.nodes.Held.{Held}
use Rattle.sat_base.specs.declared.requests.Place.{Place}
use Rattle.sat_base.specs.declared.scheme.Scheme.{Scheme}
use Rattle.repair_core.specs.declared.outcome.Mended.{Mended}
use Rattle.repair_core.specs.declared.outcome.RepairOutcome.TheVariants as repairs
use Rattle.repair_core.specs.declared.plan.RepairPlan.{RepairPlan}
use Rattle.repair_core.specs.declared.rebuilt.Remade.{Remade}
use Rattle.repair_core.specs.Indexes.{has_index, place_indexes}
use Rattle.machine_step.specs.Bounds.{IsValid}
use Rattle.machine_step.specs.Tables.{Tables}
use Rattle.machine_history.specs.History.{IsLegal, Said}
use Rattle.machine_plans.specs.Ends.{is_repair_ended, move_end, repair_end}
use Rattle.machine_plans.specs.Opened.{at_place}
use Rattle.node_asks.specs.Ending.{sound_of}
use Rattle.node_asks.specs.Remaking.{Ends, Heeding, blamed_of, heeding_of}
use Rattle.node_asks.specs.Spreading.{IsSpread, Spreads}
use Rattle.named_segments.specs.Named.{IsNamed}
use Rattle.named_segments.specs.Repairs.{AreAt, AreWellHeard, IsWellMended, KeepsBytes}
use Rattle.named_segments.proofs.Repaired.{move_keeps, repair_keeps}
use Rattle.node_rounds.specs.declared.kit.NodesView.{NodesView}
use Rattle.node_rounds.specs.Asked.{IsEnded, IsRepaired}
use Rattle.node_rounds.specs.Keeps.{KeepsNamed}

-- what came of asking, for whatever segment its sources answered well
record WasMended (secret : List ℕ) (mended : Mended) (sources targets : List Place) (before : List Held) (new : NodesView) : Type 0 where
  pub behind : List Held
  pub held : new.held ≡ Some behind
  pub remade : Remade
  pub end : Heeding
  pub ends : Ends (Some before) secret mended.scheme mended.plan sources (Some remade) end
  pub places : AreAt mended sources targets
  pub well : (named : List ℕ) → AreWellHeard (Some before) secret mended.scheme mended.plan named ends.0.0 (heeding_of mended.scheme mended.plan sources) end ends.0.1
      → IsWellMended secret mended sources targets (map (λ place. place.index) end.still) named before behind

-- the scheme and the plan of what was mended are those that were asked by
own_of : (secret : List ℕ) (scheme : Scheme) (plan : RepairPlan) (sources targets : List Place) (old : NodesView) (mended : Mended) (new : NodesView) → IsRepaired secret scheme plan sources targets old (repairs.Mended mended) new
    → (scheme ≡ mended.scheme) × (plan ≡ mended.plan)
own_of secret scheme plan sources targets old mended new is = go is.heeded.made is.ended
  where
    go : (made : Option Remade) → IsEnded secret scheme plan targets is.heeded made is.between (repairs.Mended mended) new → (scheme ≡ mended.scheme) × (plan ≡ mended.plan)
    go None ended = absurd ended.1
    go (Some remade) ended = (sym ended.concluded.1, sym ended.concluded.2)

module _ (secret : List ℕ) (mended : Mended) (sources targets : List Place) (old new : NodesView) (before : List Held) where
  by_own : IsRepaired secret mended.scheme mended.plan sources targets old (repairs.Mended mended) new → old.held ≡ Some before → WasMended secret mended sources targets before new
  by_own is held = go is.heeded.made refl is.ended
    where
      go : (made : Option Remade) → is.heeded.made ≡ made → IsEnded secret mended.scheme mended.plan targets is.heeded made is.between (repairs.Mended mended) new → WasMended secret mended sources targets before new
      go None same ended = absurd ended.1
      go (Some remade) same ended =
          let asked = is.gathered.remade in
          let said = ended.concluded in
          let ends : Ends (Some before) secret mended.scheme mended.plan sources (Some remade) asked.end
          = subst (λ (m : Option Remade). Ends (Some before) secret mended.scheme mended.plan sources m asked.end) same
          (subst (λ (h : Option (List Held)). Ends h secret mended.scheme mended.plan sources is.heeded.made asked.end) held asked.is.ends) in
          let spread : Spreads (Some before) mended.plan.segment targets remade.fresh new.held ended.placed
          = subst (λ (h : Option (List Held)). Spreads h mended.plan.segment targets remade.fresh new.held ended.placed) (is.gathered.held ∙ held) ended.spread in
          record {
            behind = spread.0;
            held = spread.1;
            remade = remade;
            end = asked.end;
            ends = ends;
            places = record {
              sources_are = is.can.sources_are;
              targets_are = is.can.targets_are;
              sources_rise = is.can.sources_rise;
              sources_below = is.can.sources_below;
              targets_rise = is.can.targets_rise;
            };
            well = λ named. λ well. record {
              remade = remade;
              end = asked.end;
              ends = ends;
              well = well;
              answered_are = refl;
              spread = subst (λ (placed : List ℕ). IsSpread before mended.plan.segment targets remade.fresh placed spread.0) (sym said.3) spread.2;
              blamed_are = said.4;
              missing_are = said.5 ∙ asked.is.missing
                  ∙ ap (λ (m : Option Remade). filter (λ index. has_index asked.end.gone index && not (has_index (blamed_of m) index)) (place_indexes mended.plan.sources)) same;
              enough = subst (λ (blamed : List ℕ). mended.scheme.k ≤ length (sound_of blamed (map (λ place. place.index) asked.end.still))) (sym said.4)
                  (subst (λ (answered : List ℕ). mended.scheme.k ≤ length (sound_of remade.blamed answered)) asked.is.answered said.0);
            };
          }

  was_mended : (scheme : Scheme) (plan : RepairPlan) → IsRepaired secret scheme plan sources targets old (repairs.Mended mended) new → old.held ≡ Some before → WasMended secret mended sources targets before new
  was_mended scheme plan is held =
      let own = own_of secret scheme plan sources targets old mended new is in
      by_own (subst (λ (s : Scheme). IsRepaired secret s mended.plan sources targets old (repairs.Mended mended) new) own.0
      (subst (λ (p : RepairPlan). IsRepaired secret scheme p sources targets old (repairs.Mended mended) new) own.1 is)) held

  named_by : (next : Tables) (named : List ℕ) (w : WasMended secret mended sources targets before new)
      → (IsWellMended secret mended sources targets (map (λ place. place.index) w.end.still) named before w.behind → KeepsBytes next mended (map (λ place. place.index) w.end.still) named before w.behind)
      → KeepsNamed next secret mended sources named before new
  named_by next named w keeps = record { behind = w.behind; held = w.held; remade = w.remade; end = w.end; ends = w.ends; keeps = λ well. keeps (w.well named well) }

pub repair_named : (t : Tables) (h : List Said) (j : ℕ) (said : Said) (now : ℕ) (mended : Mended) (named secret : List ℕ) (scheme : Scheme) (plan : RepairPlan) (sources targets : List Place) (old new : NodesView) (before : List Held)
    → IsValid t → IsLegal t h → slice_get h j ≡ Some said → said.call ≡ repair_end mended now → is_repair_ended said.reply ≡ true → IsNamed (at_place t h j) mended.plan.segment.0 named
    → IsRepaired secret scheme plan sources targets old (repairs.Mended mended) new → old.held ≡ Some before → KeepsNamed (at_place t h (j + 1)) secret mended sources named before new
repair_named t h j said now mended named secret scheme plan sources targets old new before v legal at is ends names repaired held =
    let w = was_mended secret mended sources targets old new before scheme plan repaired held in
    named_by secret mended sources targets old new before (at_place t h (j + 1)) named w
    (repair_keeps t h j said now mended named secret sources targets (map (λ place. place.index) w.end.still) before w.behind v legal at is ends names w.places)

pub move_named : (t : Tables) (h : List Said) (j : ℕ) (said : Said) (now : ℕ) (mended : Mended) (named secret : List ℕ) (scheme : Scheme) (plan : RepairPlan) (sources targets : List Place) (old new : NodesView) (before : List Held)
    → IsValid t → IsLegal t h → slice_get h j ≡ Some said → said.call ≡ move_end mended now → is_repair_ended said.reply ≡ true → IsNamed (at_place t h j) mended.plan.segment.0 named
    → IsRepaired secret scheme plan sources targets old (repairs.Mended mended) new → old.held ≡ Some before → KeepsNamed (at_place t h (j + 1)) secret mended sources named before new
move_named t h j said now mended named secret scheme plan sources targets old new before v legal at is ends names repaired held =
    let w = was_mended secret mended sources targets old new before scheme plan repaired held in
    named_by secret mended sources targets old new before (at_place t h (j + 1)) named w
    (move_keeps t h j said now mended named secret sources targets (map (λ place. place.index) w.end.still) before w.behind v legal at is ends names w.places)
