-- An audit of a history blames just what is altered against a named segment.
use Rattle.std.proofs.Common.{◌≡◌, ℕ, ◌<◌, Bool, true, List, Option, Some, sym, ap, ◌∙◌, subst, length}
use Rattle.std.specs.Prelude.{slice_get, if◌then◌else◌}
use Rattle.std.proofs.lemmas.Bool.Decides.{nat_tests}
use Rattle.std.proofs.Common.{arith}
use Rattle.sat_base.specs.Scheme.{stripe_count}
use Rattle.segment_core.specs.Record.{SegmentRecord}
use Rattle.audit_core.specs.declared.plan.AuditPlan.{AuditPlan}
use Rattle.audit_core.specs.declared.verdict.Judged.{Judged}
use Rattle.machine_calls.specs.declared.call.Call.{Call}
use Rattle.machine_calls.specs.declared.call.Call.TheVariants as calls
use Rattle.machine_calls.specs.declared.task.Task.TheVariants as tasks
use Rattle.machine_calls.specs.declared.refusal.Refusal.TheVariants as refusals
use Rattle.machine_calls.specs.declared.reply.Reply.TheVariants as replies
use Rattle.machine_step.specs.Bounds.{IsValid}
use Rattle.machine_step.specs.Calls.EndAudit.{audit_ended, end_audit}
use Rattle.machine_step.specs.Outcome.{Outcome}
use Rattle.machine_step.specs.PlanRules.{is_audit_of, is_none_or, is_planned_of, is_sound_audit}
use Rattle.machine_step.specs.Step.{IsSchemeOf, IsWellFormed, risen, step}
use Rattle.machine_step.specs.Tables.{Tables, segment_at}
use Rattle.machine_history.specs.History.{IsLegal, Said}
use Rattle.machine_plans.specs.Ends.{is_audit_ended}
use Rattle.machine_plans.specs.Opened.{at_place}
use Rattle.machine_plans.proofs.AuditEnds.{IsEnding, ending, ended_none}
use Rattle.machine_plans.proofs.Places.{right_at, valid_at}
use Rattle.machine_plans.proofs.Steps.{reply_of}
use Rattle.named_segments.specs.Audits.{BlamesJust, IsAnsweredWell}
use Rattle.named_segments.specs.Named.{IsNamed}
use Rattle.named_segments.proofs.Blames.{blames_just}

-- the stripe of an open audit is one of its segment's
planned_stripe : (t : Tables) (v : IsValid t) (plan : AuditPlan) (segment : SegmentRecord) → t.audit ≡ Some plan → segment_at t.segments plan.segment.0 ≡ Some segment → segment.version ≡ plan.version
    → plan.stripe < stripe_count t.setup.k t.setup.share segment.len
planned_stripe t v plan segment opened at version =
    let sound : is_sound_audit t.setup t.marks t.segments plan ≡ true
    = subst (λ (o : Option AuditPlan). is_none_or (is_sound_audit t.setup t.marks t.segments) o ≡ true) opened v.rules.audit in
    let planned : is_planned_of (segment_at t.segments plan.segment.0) plan.version (is_audit_of t.setup plan) ≡ true = grind (arith, nat_tests, sound) in
    let here : is_planned_of (Some segment) plan.version (is_audit_of t.setup plan) ≡ true
    = subst (λ (o : Option SegmentRecord). is_planned_of o plan.version (is_audit_of t.setup plan) ≡ true) at planned in
    grind (arith, nat_tests, here, version)

-- what the machine answers
answered_so : (t : Tables) (now : ℕ) (judged : Judged) (named : List ℕ) → IsEnding t now judged → BlamesJust judged named (audit_ended t (risen t now) judged).reply → BlamesJust judged named (step t (calls.Own now (tasks.EndAudit judged))).reply
answered_so t now judged named e told =
    let running : (step t (calls.Own now (tasks.EndAudit judged))).reply ≡ (end_audit t (risen t now) judged).reply
    = reply_of t (calls.Own now (tasks.EndAudit judged)) ∙ ap (λ (b : Bool). if b then replies.Refused refusals.Stopped else (end_audit t (risen t now) judged).reply) e.running in
    subst (BlamesJust judged named) (sym (running ∙ ap (λ (o : Outcome). o.reply) e.is)) told

by_step : (t : Tables) (v : IsValid t) (now : ℕ) (judged : Judged) (named : List ℕ) → IsWellFormed t (calls.Own now (tasks.EndAudit judged)) → is_audit_ended (step t (calls.Own now (tasks.EndAudit judged))).reply ≡ true
    → IsNamed t judged.plan.segment.0 named → IsAnsweredWell judged named → BlamesJust judged named (step t (calls.Own now (tasks.EndAudit judged))).reply
by_step t v now judged named formed ends names well =
    let e = ending t v now judged ends in
    let scheme : IsSchemeOf t.setup judged.scheme = formed.scheme in
    let stripe = planned_stripe t v judged.plan e.found.segment e.held e.found.at e.found.version in
    let same : e.found.segment ≡ names.segment = let two : Some e.found.segment ≡ Some names.segment = sym e.found.at ∙ names.at in cc in
    let len : length named ≡ e.found.segment.len = names.len ∙ ap (λ (s : SegmentRecord). s.len) (sym same) in
    let within : judged.plan.stripe < stripe_count judged.scheme.k judged.scheme.share (length named)
    = subst (λ (n : ℕ). judged.plan.stripe < n) ((λ i. stripe_count (sym scheme.k i) (sym scheme.share i) (sym len i))) stripe in
    let found = blames_just judged named names.bytes within well in
    answered_so t now judged named e found

pub audit_blames : (t : Tables) (h : List Said) (j : ℕ) (said : Said) (now : ℕ) (judged : Judged) (named : List ℕ) → IsValid t → IsLegal t h → slice_get h j ≡ Some said → said.call ≡ calls.Own now (tasks.EndAudit judged)
    → is_audit_ended said.reply ≡ true → IsNamed (at_place t h j) judged.plan.segment.0 named → IsAnsweredWell judged named → BlamesJust judged named said.reply
audit_blames t h j said now judged named v legal at is ends names well =
    let right = right_at h j said t legal at in
    let answer : said.reply ≡ (step (at_place t h j) (calls.Own now (tasks.EndAudit judged))).reply
    = right.answer (ended_none said.reply ends) ∙ ap (λ (c : Call). (step (at_place t h j) c).reply) is in
    let formed : IsWellFormed (at_place t h j) (calls.Own now (tasks.EndAudit judged)) = subst (λ (c : Call). IsWellFormed (at_place t h j) c) is right.formed in
    subst (BlamesJust judged named) (sym answer)
    (by_step (at_place t h j) (valid_at h j t v legal) now judged named formed (ap is_audit_ended (sym answer) ∙ ends) names well)
