-- Planned audits and rechecks.
use Rattle.std.proofs.Common.{◌≡◌, ℕ, ◌<◌, ◌^◌, Bool, true, false, List, [], ◌∷◌, Option, Some, None, refl, sym, ap, subst, ◌∙◌, arith}
use Rattle.std.specs.Prelude.{if◌then◌else◌, slice_index}
use Rattle.std.specs.List.{list_all}
use Rattle.std.proofs.lemmas.Bool.Decides.{nat_tests}
use Rattle.std.proofs.lemmas.Bool.{and_parts}
use Rattle.sat_base.specs.declared.records.Containment.{Containment}
use Rattle.sat_base.specs.declared.requests.Place.{Place}
use Rattle.sat_base.specs.declared.scheme.Scheme.{Scheme}
use Rattle.sat_base.specs.Scheme.{stripe_count}
use Rattle.node_registry.specs.Registry.{node_at}
use Rattle.segment_core.specs.Record.{SegmentRecord}
use Rattle.audit_core.specs.declared.plan.AuditPlan.{AuditPlan}
use Rattle.audit_core.specs.declared.rechecking.RecheckPlan.{RecheckPlan}
use Rattle.machine_calls.specs.declared.call.Call.{Call}
use Rattle.machine_calls.specs.declared.call.Call.TheVariants as calls
use Rattle.machine_calls.specs.declared.task.Task.TheVariants as tasks
use Rattle.machine_calls.specs.declared.refusal.Refusal.TheVariants as refusals
use Rattle.machine_calls.specs.declared.refusal.TableName.TheVariants as names
use Rattle.machine_calls.specs.declared.reply.Reply.{Reply}
use Rattle.machine_calls.specs.declared.reply.Reply.TheVariants as replies
use Rattle.machine_step.specs.Bounds.{IsValid}
use Rattle.machine_step.specs.Calls.PlanAudit.{audit_numbered, audit_of, audit_planned, is_asked, plan_audit}
use Rattle.machine_step.specs.Calls.PlanRecheck.{plan_recheck, recheck_of, recheck_planned}
use Rattle.machine_step.specs.Containment.{has_live_piece, place_of, serves, stands}
use Rattle.machine_step.specs.Health.{first_of, live_segments, picked}
use Rattle.machine_step.specs.Outcome.{unless, with_record}
use Rattle.machine_step.specs.Places.{place_at, places_of}
use Rattle.machine_step.specs.PlanRules.{has_stripe, is_owed}
use Rattle.machine_step.specs.Plans.{has_no_plan}
use Rattle.machine_step.specs.Step.{IsSchemeOf, case_of, risen, step}
use Rattle.machine_step.specs.Tables.{Tables, segment_at}
use Rattle.machine_step.proofs.Drawn.{live-found}
use Rattle.machine_step.proofs.Validity.{all_stand, steady_of}
use Rattle.machine_plans.proofs.Steps.{reply_of}
use Rattle.askable_plans.specs.Askable.{IsAuditable, IsRecheckable}
use Rattle.askable_plans.proofs.Pieces.{pieces_are, sized, some_below, some_rise}

-- a reply that isn't of a stopped machine is that of the case
pub case_reply : (t : Tables) (call : Call) (reply : Reply) → ((replies.Refused refusals.Stopped ≡ reply) → ⊥) → (step t call).reply ≡ reply → (case_of t call).reply ≡ reply
case_reply t call reply other h = go t.stopped (sym (reply_of t call) ∙ h)
  where
    go : (b : Bool) → (if b then replies.Refused refusals.Stopped else (case_of t call).reply) ≡ reply → (case_of t call).reply ≡ reply
    go true is = absurd (other is)
    go false is = is

module _ (t : Tables) (v : IsValid t) (scheme : Scheme) (own : IsSchemeOf t.setup scheme) (time : ℕ) where
  audit_fits : (segment : SegmentRecord) (word : ℕ) → segment_at t.segments segment.id.0 ≡ Some segment → IsAuditable scheme (audit_of t time segment word) (places_of t.nodes (audit_of t time segment word).asked)
  audit_fits segment word at =
      let size = sized t v segment.id.0 segment at in
      let plan = audit_of t time segment word in
      let stripe : plan.stripe < stripe_count t.setup.k t.setup.share segment.len = omega (arith, size.some_stripes) in
      record {
        places_are = pieces_are t.nodes plan.asked;
        stripe = omega (arith, stripe, size.few_stripes, size.few);
        rising = some_rise t v (is_asked t) segment.id.0 segment at;
        below = some_below t v scheme own (is_asked t) segment.id.0 segment at;
      }

  audit_case : (words : List ℕ) (plan : AuditPlan) (places : List Place) → (plan_audit t time words).reply ≡ replies.AuditPlanned plan places → IsAuditable scheme plan places
  audit_case words plan places h = go (picked (live_segments t) (slice_index words 0)) refl h
    where
      numbered : (segment : SegmentRecord) → picked (live_segments t) (slice_index words 0) ≡ Some segment → (b : Bool)
          → (unless b (refusals.TableFull names.Numbers) (audit_planned t time (audit_of t time segment (slice_index words 1)))).reply ≡ replies.AuditPlanned plan places → IsAuditable scheme plan places
      numbered segment is true h = absurd cc
      numbered segment is false h =
          let there = live-found t v (slice_index words 0) segment is in
          let mine = audit_of t time segment (slice_index words 1) in
          let same : mine ≡ plan = cc in
          let at : places_of t.nodes mine.asked ≡ places = cc in
          subst (λ (z : AuditPlan × List Place). IsAuditable scheme z.0 z.1) (λ i. (same i, at i)) (audit_fits segment (slice_index words 1) there.1)

      go : (found : Option SegmentRecord) → picked (live_segments t) (slice_index words 0) ≡ found
          → (with_record found refusals.NothingToAudit (λ segment. audit_numbered t time (audit_of t time segment (slice_index words 1)))).reply ≡ replies.AuditPlanned plan places → IsAuditable scheme plan places
      go None is h = absurd cc
      go (Some segment) is h = numbered segment is (has_no_plan t.marks) h

pub audit_askable : (t : Tables) (scheme : Scheme) (now : ℕ) (words : List ℕ) (plan : AuditPlan) (places : List Place) → IsValid t → IsSchemeOf t.setup scheme
    → (step t (calls.Own now (tasks.PlanAudit words))).reply ≡ replies.AuditPlanned plan places → IsAuditable scheme plan places
audit_askable t scheme now words plan places v own h = audit_case t v scheme own (risen t now) words plan places (case_reply t (calls.Own now (tasks.PlanAudit words)) (replies.AuditPlanned plan places) (λ e. cc) h)

module _ (t : Tables) (v : IsValid t) (time : ℕ) where
  first-all : (test : Containment → Bool) (rows : List Containment) (c : Containment) → list_all test rows ≡ true → first_of rows ≡ Some c → test c ≡ true
  first-all test [] c all is = cc
  first-all test (x ∷ rows) c all is = let same : x ≡ c = cc in ap test (sym same) ∙ (and_parts (test x) (list_all test rows) all).0

  recheck_fits : (c : Containment) → first_of t.containments ≡ Some c → IsRecheckable (recheck_of t time c) (place_at t.nodes (place_of c))
  recheck_fits c is = record { node = refl; index = refl; stripe = go (segment_at t.segments c.segment.0) refl live owed }
    where
      live : has_live_piece (segment_at t.segments c.segment.0) (place_of c) ≡ true
      live = (and_parts (serves (node_at t.nodes c.node)) (has_live_piece (segment_at t.segments c.segment.0) (place_of c)) (first-all (stands t) t.containments c (all_stand t v) is)).1

      owed : has_stripe t.setup (segment_at t.segments c.segment.0) c.stripe ≡ true
      owed = let o = first-all (is_owed t.setup t.segments) t.containments c (steady_of t v).containments.owed is in (and_parts _ (has_stripe t.setup (segment_at t.segments c.segment.0) c.stripe) o).1

      go : (found : Option SegmentRecord) → segment_at t.segments c.segment.0 ≡ found → has_live_piece found (place_of c) ≡ true → has_stripe t.setup found c.stripe ≡ true → c.stripe < 2 ^ 40
      go None at live owed = absurd cc
      go (Some found) at live owed =
          let size = sized t v c.segment.0 found at in
          let stripe : c.stripe < stripe_count t.setup.k t.setup.share found.len = grind (arith, nat_tests, owed) in
          omega (arith, stripe, size.few_stripes, size.few)

  recheck_case : (plan : RecheckPlan) (place : Place) → (plan_recheck t time).reply ≡ replies.RecheckPlanned plan place → IsRecheckable plan place
  recheck_case plan place h = go (first_of t.containments) refl h
    where
      numbered : (c : Containment) → first_of t.containments ≡ Some c → (b : Bool) → (unless b (refusals.TableFull names.Numbers) (recheck_planned t time c)).reply ≡ replies.RecheckPlanned plan place → IsRecheckable plan place
      numbered c is true h = absurd cc
      numbered c is false h =
          let same : recheck_of t time c ≡ plan = cc in
          let at : place_at t.nodes (place_of c) ≡ place = cc in
          subst (λ (z : RecheckPlan × Place). IsRecheckable z.0 z.1) (λ i. (same i, at i)) (recheck_fits c is)

      go : (found : Option Containment) → first_of t.containments ≡ found
          → (with_record found refusals.NothingToRecheck (λ c. unless (has_no_plan t.marks) (refusals.TableFull names.Numbers) (recheck_planned t time c))).reply ≡ replies.RecheckPlanned plan place → IsRecheckable plan place
      go None is h = absurd cc
      go (Some c) is h = numbered c is (has_no_plan t.marks) h

pub recheck_askable : (t : Tables) (now : ℕ) (plan : RecheckPlan) (place : Place) → IsValid t → (step t (calls.Own now tasks.PlanRecheck)).reply ≡ replies.RecheckPlanned plan place → IsRecheckable plan place
recheck_askable t now plan place v h = recheck_case t v (risen t now) plan place (case_reply t (calls.Own now tasks.PlanRecheck) (replies.RecheckPlanned plan place) (λ e. cc) h)
