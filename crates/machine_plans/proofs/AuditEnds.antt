-- From the plan of an audit to its end.
use Rattle.std.proofs.Common.{◌≡◌, ◌⊎◌, inl, inr, ℕ, ◌<◌, Bool, true, false, List, Option, Some, None, refl, sym, ap, subst, ◌∙◌, arith}
use Rattle.std.specs.Prelude.{slice_get, slice_index, take}
use Rattle.std.proofs.lemmas.Bool.Decides.{nat_tests}
use Rattle.segment_core.specs.Record.{SegmentRecord}
use Rattle.audit_core.specs.declared.plan.AuditPlan.{AuditPlan}
use Rattle.audit_core.specs.declared.verdict.Judged.{Judged}
use Rattle.machine_calls.specs.declared.call.Call.{Call}
use Rattle.machine_calls.specs.declared.call.Call.TheVariants as calls
use Rattle.machine_calls.specs.declared.task.Task.TheVariants as tasks
use Rattle.machine_calls.specs.declared.wish.Wish.TheVariants as wishes
use Rattle.machine_calls.specs.declared.reply.Reply.{Reply}
use Rattle.machine_calls.specs.declared.reply.Reply.TheVariants as replies
use Rattle.machine_calls.specs.declared.refusal.Refusal.TheVariants as refusals
use Rattle.machine_calls.specs.declared.refusal.TableName.TheVariants as names
use Rattle.machine_calls.specs.Replies.{is_lost}
use Rattle.machine_step.specs.Tables.{Tables}
use Rattle.machine_step.specs.Outcome.{Outcome, unless, with_record}
use Rattle.machine_step.specs.Health.{live_segments, picked, are_among}
use Rattle.machine_step.specs.Plans.{has_no_plan}
use Rattle.machine_step.specs.Step.{risen, case_of, step}
use Rattle.machine_step.specs.Calls.PlanAudit.{audit_of, audit_planned, audit_numbered, plan_audit}
use Rattle.machine_step.specs.Calls.EndAudit.{audit_ended, end_audit}
use Rattle.machine_step.specs.Bounds.{IsValid}
use Rattle.machine_step.proofs.AuditFound.{AuditFound, audit_found, AuditEnds, audit_ends}
use Rattle.machine_step.proofs.AuditFound.AuditEnds.{not_open, superseded_end, ended}
use Rattle.machine_step.proofs.Drawn.{live-found}
use Rattle.machine_history.specs.History.{Said, IsLegal}
use Rattle.machine_plans.specs.Opened.{opened_audit, at_place, WasOpened}
use Rattle.machine_plans.specs.Ends.{is_audit_ended, AsksItsPieces, IsAudited, WasAudited}
use Rattle.machine_plans.proofs.Steps.{running, opened_in}
use Rattle.machine_plans.proofs.Trace.{was_opened}
use Rattle.machine_plans.proofs.Openings.{opens_audit}
use Rattle.machine_plans.proofs.Places.{right_at, valid_at, get_take, legal_until, IsPlannedOn, same_at}

-- ---- what a plan finds

planned_case : (t : Tables) (v : IsValid t) (time : ℕ) (words : List ℕ) (plan : AuditPlan) → opened_audit (plan_audit t time words).reply ≡ Some plan → IsPlannedOn t plan.segment.0 plan.version
planned_case t v time words plan h = go (picked (live_segments t) (slice_index words 0)) refl h
  where
    numbered : (segment : SegmentRecord) → picked (live_segments t) (slice_index words 0) ≡ Some segment → (b : Bool)
        → opened_audit (unless b (refusals.TableFull names.Numbers) (audit_planned t time (audit_of t time segment (slice_index words 1)))).reply ≡ Some plan → IsPlannedOn t plan.segment.0 plan.version
    numbered segment is true h = absurd cc
    numbered segment is false h =
        let there = live-found t v (slice_index words 0) segment is in
        let same : audit_of t time segment (slice_index words 1) ≡ plan = cc in
        subst (λ (p : AuditPlan). IsPlannedOn t p.segment.0 p.version) same (record { segment = segment; at = there.1; in_version = refl })

    go : (found : Option SegmentRecord) → picked (live_segments t) (slice_index words 0) ≡ found
        → opened_audit (with_record found refusals.NothingToAudit (λ segment. audit_numbered t time (audit_of t time segment (slice_index words 1)))).reply ≡ Some plan → IsPlannedOn t plan.segment.0 plan.version
    go None is h = absurd cc
    go (Some segment) is h = numbered segment is (has_no_plan t.marks) h

planned_any : (t : Tables) (v : IsValid t) (call : Call) (plan : AuditPlan) → opened_audit (case_of t call).reply ≡ Some plan → IsPlannedOn t plan.segment.0 plan.version
planned_any t v (calls.Own now (tasks.PlanAudit words)) plan h = planned_case t v (risen t now) words plan h
planned_any t v (calls.Asked now words wishes.Stop) plan h = absurd (let none : ⊥ = grind (arith, nat_tests, h) in none)
planned_any t v call plan h = absurd (let none : ⊥ = grind (arith, nat_tests, h) in none)

planned_on : (t : Tables) (v : IsValid t) (call : Call) (plan : AuditPlan) → opened_audit (step t call).reply ≡ Some plan → IsPlannedOn t plan.segment.0 plan.version
planned_on t v call plan h = planned_any t v call plan (opened_in t call opened_audit plan refl h)

-- ---- what an end finds

-- the machine runs, and the audit ends
pub record IsEnding (t : Tables) (now : ℕ) (judged : Judged) : Type 0 where
  pub running : t.stopped ≡ false
  pub held : t.audit ≡ Some judged.plan
  pub is : end_audit t (risen t now) judged ≡ audit_ended t (risen t now) judged
  pub found : AuditFound t judged.plan

pub ending : (t : Tables) (v : IsValid t) (now : ℕ) (judged : Judged) → is_audit_ended (step t (calls.Own now (tasks.EndAudit judged))).reply ≡ true → IsEnding t now judged
ending t v now judged h =
    let r = running t (calls.Own now (tasks.EndAudit judged)) is_audit_ended refl h in
    go r.0 r.1 (audit_ends t (risen t now) judged)
  where
    not_so : (o : Outcome) → end_audit t (risen t now) judged ≡ o → is_audit_ended o.reply ≡ false → is_audit_ended (end_audit t (risen t now) judged).reply ≡ true → ⊥
    not_so o is none did = let bad : true ≡ false = sym did ∙ ap (λ (x : Outcome). is_audit_ended x.reply) is ∙ none in cc

    go : t.stopped ≡ false → is_audit_ended (end_audit t (risen t now) judged).reply ≡ true → AuditEnds t (risen t now) judged → IsEnding t now judged
    go runs did (not_open is) = absurd (not_so _ is refl did)
    go runs did (superseded_end held other is) = absurd (not_so _ is refl did)
    go runs did (ended held same is) = record { running = runs; held = held; is = is; found = audit_found t v judged.plan held same }

pub asks_its_pieces : (t : Tables) (now : ℕ) (judged : Judged) → IsValid t → is_audit_ended (step t (calls.Own now (tasks.EndAudit judged))).reply ≡ true → AsksItsPieces t judged
asks_its_pieces t now judged v h =
    let f = (ending t v now judged h).found in
    record { segment = f.segment; at = f.at; in_version = f.version; asked = f.among }

-- ---- from the one to the other

lost_none : (reply : Reply) (plan : AuditPlan) → opened_audit reply ≡ Some plan → is_lost reply ≡ false
lost_none (replies.StoreFault before after) plan is = cc
lost_none replies.NoMemory plan is = cc
lost_none _ plan is = refl

pub ended_none : (reply : Reply) → is_audit_ended reply ≡ true → is_lost reply ≡ false
ended_none (replies.StoreFault before after) is = cc
ended_none replies.NoMemory is = cc
ended_none _ is = refl

-- the end's answer is its step's
end_answer : (t : Tables) (h : List Said) (j : ℕ) (said : Said) (now : ℕ) (judged : Judged) → IsLegal t h → slice_get h j ≡ Some said → said.call ≡ calls.Own now (tasks.EndAudit judged) → is_audit_ended said.reply ≡ true
    → is_audit_ended (step (at_place t h j) (calls.Own now (tasks.EndAudit judged))).reply ≡ true
end_answer t h j said now judged legal at is ends =
    let right = right_at h j said t legal at in
    ap (λ (c : Call). is_audit_ended (step (at_place t h j) c).reply) (sym is) ∙ ap is_audit_ended (sym (right.answer (ended_none said.reply ends))) ∙ ends

pub audit_places : (t : Tables) (h : List Said) (i j : ℕ) (planned said : Said) (now : ℕ) (judged : Judged) → IsValid t → IsLegal t h → i < j → slice_get h i ≡ Some planned → slice_get h j ≡ Some said
    → opened_audit planned.reply ≡ Some judged.plan → said.call ≡ calls.Own now (tasks.EndAudit judged) → is_audit_ended said.reply ≡ true → IsAudited (at_place t h i) (at_place t h j) judged
audit_places t h i j planned said now judged v legal lt at_i at_j opens is ends =
    let right = right_at h i planned t legal at_i in
    let answer : opened_audit (step (at_place t h i) planned.call).reply ≡ Some judged.plan = ap opened_audit (sym (right.answer (lost_none planned.reply judged.plan opens))) ∙ opens in
    let first = planned_on (at_place t h i) (valid_at h i t v legal) planned.call judged.plan answer in
    let f = (ending (at_place t h j) (valid_at h j t v legal) now judged (end_answer t h j said now judged legal at_j is ends)).found in
    let last : IsPlannedOn (at_place t h j) judged.plan.segment.0 judged.plan.version = record { segment = f.segment; at = f.at; in_version = f.version } in
    let same = same_at h i j t v legal (omega (arith, lt)) judged.plan.segment.0 judged.plan.version first last in
    let own : f.segment ≡ same.segment = let two : Some f.segment ≡ Some same.segment = sym f.at ∙ same.at_last in cc in
    record { same = same; asked = subst (λ (s : SegmentRecord). are_among s.pieces judged.plan.asked ≡ true) own f.among }

pub each_audit : (t : Tables) (h : List Said) (j : ℕ) (said : Said) (now : ℕ) (judged : Judged) → IsValid t → IsLegal t h → slice_get h j ≡ Some said → said.call ≡ calls.Own now (tasks.EndAudit judged)
    → is_audit_ended said.reply ≡ true → (t.audit ≡ Some judged.plan) ⊎ WasAudited t h j judged
each_audit t h j said now judged v legal at is ends =
    let held = (ending (at_place t h j) (valid_at h j t v legal) now judged (end_answer t h j said now judged legal at is ends)).held in
    elim (was_opened (λ (x : Tables). x.audit) opened_audit (λ x rows stopped. refl) opens_audit (take j h) t judged.plan (legal_until h j t legal) held) [
      | inl first ↦ inl first
      | inr w ↦ inr (was w)
    ]
  where
    was : WasOpened opened_audit (take j h) judged.plan → WasAudited t h j judged
    was w =
        let there = get_take h w.place j w.said w.there in
        record {
          place = w.place;
          earlier = there.0;
          said = w.said;
          there = there.1;
          answer = w.answer;
          audited = audit_places t h w.place j w.said said now judged v legal there.0 there.1 at w.answer is ends;
        }
