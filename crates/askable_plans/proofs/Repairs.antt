-- Planned repairs.
use Rattle.std.proofs.Common.{◌≡◌, ℕ, ◌-◌, ◌<◌, ◌≤◌, ◌^◌, Bool, true, false, List, [], ◌∷◌, length, Option, Some, None, IfSome, min, refl, sym, ap, subst, ◌∙◌, arith}
use Rattle.std.specs.Prelude.{filter, ◌==◌}
use Rattle.std.proofs.lemmas.Bool.Decides.{nat_tests}
use Rattle.sat_base.specs.declared.requests.Place.{Place}
use Rattle.sat_base.specs.declared.scheme.Scheme.{Scheme}
use Rattle.segment_core.specs.Health.{is_healthy}
use Rattle.segment_core.specs.Record.{SegmentRecord, segment_rank}
use Rattle.placement.specs.Eligible.{subnet_count}
use Rattle.placement.proofs.Picks.{got-kept}
use Rattle.repair_core.specs.declared.plan.RepairPlan.{RepairPlan}
use Rattle.machine_calls.specs.declared.call.Call.TheVariants as calls
use Rattle.machine_calls.specs.declared.task.Task.TheVariants as tasks
use Rattle.machine_calls.specs.declared.refusal.Refusal.TheVariants as refusals
use Rattle.machine_calls.specs.declared.refusal.TableName.TheVariants as names
use Rattle.machine_calls.specs.declared.reply.Reply.TheVariants as replies
use Rattle.machine_step.specs.Bounds.{IsValid}
use Rattle.machine_step.specs.Calls.PlanRepair.{needs_repair, plan_repair, repair_from, repair_of, repair_planned, targets_for, terms_beside, to_repair}
use Rattle.machine_step.specs.Health.{healthy_count, healthy_of}
use Rattle.machine_step.specs.Outcome.{Outcome, unless, with_record}
use Rattle.machine_step.specs.Places.{places_of}
use Rattle.machine_step.specs.PlanRules.{is_planned_of, is_sound_repair, is_whole_repair_of}
use Rattle.machine_step.specs.Plans.{drawn, has_no_plan}
use Rattle.machine_step.specs.Rules.{are_below}
use Rattle.machine_step.specs.Step.{IsSchemeOf, risen, step}
use Rattle.machine_step.specs.Tables.{Tables, segment_at}
use Rattle.machine_step.proofs.Calls.PlanRepair.{fit_plan_repair, least-got}
use Rattle.machine_step.proofs.Fits.{After}
use Rattle.machine_step.proofs.Hold.{RepairHolds}
use Rattle.machine_step.proofs.RowLemmas.{row_got}
use Rattle.askable_plans.specs.Askable.{IsRepairable}
use Rattle.askable_plans.proofs.Audits.{case_reply}
use Rattle.askable_plans.proofs.Pieces.{below_at, pieces_are, rises_by, sized, some_below, some_rise}

module _ (t : Tables) (v : IsValid t) (scheme : Scheme) (own : IsSchemeOf t.setup scheme) (time : ℕ) (le : t.marks.time ≤ time) (lt : time < 2 ^ 36) where
  -- the open plan holds
  holds : (words : List ℕ) (plan : RepairPlan) → plan_repair t time words ≡ repair_planned t time plan → RepairHolds t.marks.segment t.setup (drawn t.marks time) t.nodes t.segments plan
  holds words plan is = (subst (After t) is (fit_plan_repair t v time le lt words)).becomes.steady.repair

  targets_below : (plan : RepairPlan) (segment : SegmentRecord) → segment_at t.segments plan.segment.0 ≡ Some segment → segment.version ≡ plan.version
      → is_sound_repair t.setup (drawn t.marks time) t.nodes t.segments plan ≡ true → are_below t.setup.n plan.targets ≡ true
  targets_below plan segment at version sound =
      let planned : is_planned_of (segment_at t.segments plan.segment.0) plan.version (is_whole_repair_of t.setup t.nodes plan) ≡ true = grind (arith, nat_tests, sound) in
      let here : is_planned_of (Some segment) plan.version (is_whole_repair_of t.setup t.nodes plan) ≡ true
      = subst (λ (o : Option SegmentRecord). is_planned_of o plan.version (is_whole_repair_of t.setup t.nodes plan) ≡ true) at planned in
      let whole : is_whole_repair_of t.setup t.nodes plan segment ≡ true = grind (arith, nat_tests, here, version) in
      grind (arith, nat_tests, whole)

  repair_fits : (words : List ℕ) (segment : SegmentRecord) (need : ℕ) → segment_at t.segments segment.id.0 ≡ Some segment
      → plan_repair t time words ≡ repair_planned t time (repair_of t time segment (healthy_of t segment) (targets_for t (healthy_of t segment) segment.len words need))
      → IsRepairable scheme (repair_of t time segment (healthy_of t segment) (targets_for t (healthy_of t segment) segment.len words need))
      (places_of t.nodes (healthy_of t segment)) (places_of t.nodes (targets_for t (healthy_of t segment) segment.len words need))
  repair_fits words segment need at is =
      let targets = targets_for t (healthy_of t segment) segment.len words need in
      let plan = repair_of t time segment (healthy_of t segment) targets in
      let h = holds words plan is in
      let below : are_below t.setup.n targets ≡ true = targets_below plan segment at refl h.sound in
      record {
        sources_are = pieces_are t.nodes (healthy_of t segment);
        targets_are = pieces_are t.nodes targets;
        len = (sized t v segment.id.0 segment at).few;
        sources_rise = some_rise t v (is_healthy t.nodes) segment.id.0 segment at;
        sources_below = some_below t v scheme own (is_healthy t.nodes) segment.id.0 segment at;
        targets_rise = rises_by targets h.within.targets.by_index;
        targets_below = below_at scheme.n targets (ap (λ n. are_below n targets) own.n ∙ below);
      }

  repair_case : (words : List ℕ) (plan : RepairPlan) (sources targets : List Place) → (plan_repair t time words).reply ≡ replies.RepairPlanned plan sources targets → IsRepairable scheme plan sources targets
  repair_case words plan sources targets h = go (to_repair t) refl refl h
    where
      counted : (segment : SegmentRecord) (need : ℕ) → segment_at t.segments segment.id.0 ≡ Some segment → (a b : Bool)
          → plan_repair t time words ≡ unless a (refusals.TableFull names.Numbers) (unless b (refusals.Few 0) (repair_planned t time (repair_of t time segment (healthy_of t segment) (targets_for t (healthy_of t segment) segment.len words need))))
          → (unless a (refusals.TableFull names.Numbers) (unless b (refusals.Few 0) (repair_planned t time (repair_of t time segment (healthy_of t segment) (targets_for t (healthy_of t segment) segment.len words need))))).reply ≡ replies.RepairPlanned plan sources targets
          → IsRepairable scheme plan sources targets
      counted segment need at true b is h = absurd cc
      counted segment need at false true is h = absurd cc
      counted segment need at false false is h =
          let mine = repair_of t time segment (healthy_of t segment) (targets_for t (healthy_of t segment) segment.len words need) in
          let same : mine ≡ plan = cc in
          let from : places_of t.nodes mine.sources ≡ sources = cc in
          let to : places_of t.nodes mine.targets ≡ targets = cc in
          subst (λ (z : RepairPlan × List Place × List Place). IsRepairable scheme z.0 z.1 z.2) (λ i. (same i, from i, to i)) (repair_fits words segment need at is)

      go : (found : Option SegmentRecord) → to_repair t ≡ found → plan_repair t time words ≡ with_record found refusals.NothingToRepair (λ segment. repair_from t time words segment (healthy_of t segment))
          → (with_record found refusals.NothingToRepair (λ segment. repair_from t time words segment (healthy_of t segment))).reply ≡ replies.RepairPlanned plan sources targets → IsRepairable scheme plan sources targets
      go None is whole h = absurd cc
      go (Some segment) is whole h =
          let got = least-got (healthy_count t) (filter (needs_repair t) t.segments) segment is in
          let kept = got-kept (needs_repair t) t.segments segment got.0 got.1 in
          let at = row_got segment_rank t.segments v.order.segments kept.1.0 segment kept.1.1 in
          let need = min (t.setup.o - length (healthy_of t segment)) (subnet_count (terms_beside t (healthy_of t segment) segment.len words)) in
          counted segment need at (has_no_plan t.marks) (need == 0) whole h

pub repair_askable : (t : Tables) (scheme : Scheme) (now : ℕ) (words : List ℕ) (plan : RepairPlan) (sources targets : List Place) → IsValid t → now < 2 ^ 36 → IsSchemeOf t.setup scheme
    → (step t (calls.Own now (tasks.PlanRepair words))).reply ≡ replies.RepairPlanned plan sources targets → IsRepairable scheme plan sources targets
repair_askable t scheme now words plan sources targets v timely own h =
    repair_case t v scheme own (risen t now) (omega arith) (let most = v.bounds.marks.time in omega (arith, timely, most)) words plan sources targets
    (case_reply t (calls.Own now (tasks.PlanRepair words)) (replies.RepairPlanned plan sources targets) (λ e. cc) h)
