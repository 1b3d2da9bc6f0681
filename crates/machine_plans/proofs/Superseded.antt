-- Where an end is superseded, and what leaves the segments.
use Rattle.std.proofs.Common.{◌≡◌, ℕ, true, false, Option, Some, None, refl, sym, ap, ◌∙◌, arith}
use Rattle.std.specs.Prelude.{◌≢◌, ◌==◌}
use Rattle.std.proofs.lemmas.Bool.Decides.{nat_tests}
use Rattle.sat_base.specs.declared.kinds.TheConstants as kinds
use Rattle.segment_core.specs.Record.{SegmentRecord}
use Rattle.audit_core.specs.declared.verdict.Judged.{Judged}
use Rattle.repair_core.specs.declared.plan.RepairPlan.{RepairPlan}
use Rattle.repair_core.specs.declared.outcome.RepairOutcome.{RepairOutcome}
use Rattle.repair_core.specs.declared.outcome.RepairOutcome.TheVariants as repairs
use Rattle.machine_calls.specs.declared.call.Call.TheVariants as calls
use Rattle.machine_calls.specs.declared.task.Task.TheVariants as tasks
use Rattle.machine_calls.specs.declared.reply.Reply.{Reply}
use Rattle.machine_calls.specs.declared.reply.Reply.TheVariants as replies
use Rattle.machine_calls.specs.declared.refusal.Refusal.TheVariants as refusals
use Rattle.machine_step.specs.Tables.{Tables, segment_at}
use Rattle.machine_step.specs.Outcome.{Outcome}
use Rattle.machine_step.specs.Plans.{version_of}
use Rattle.machine_step.specs.Mending.{plan_of, mending_of, end_mending}
use Rattle.machine_step.specs.Step.{risen, step}
use Rattle.machine_step.specs.Calls.EndAudit.{end_audit}
use Rattle.machine_step.specs.Calls.EndExit.{open_move}
use Rattle.machine_step.specs.Bounds.{IsValid}
use Rattle.machine_step.proofs.AuditFound.{AuditEnds, audit_ends}
use Rattle.machine_step.proofs.AuditFound.AuditEnds.{not_open as audit_not_open, superseded_end as audit_superseded, ended as audit_done}
use Rattle.machine_step.proofs.MendFound.{IsMendable, mendable_repair, mendable_move, MendingEnds, mending_ends}
use Rattle.machine_step.proofs.MendFound.MendingEnds.{not_open, gone_end, superseded_end, ended}
use Rattle.machine_plans.specs.Opened.{is_accepted}
use Rattle.machine_plans.specs.Ends.{IsSupersededBy}
use Rattle.machine_plans.proofs.Steps.{running}
use Rattle.machine_step.proofs.StepLemmas.{reply_of_case}

differ : (a b : ℕ) → (a == b) ≡ false → a ≢ b
differ a b test same = grind (arith, nat_tests, test, same)

-- a reply that is superseded, and one that isn't
is_so : (t : Tables) (segment planned : ℕ) (reply : Reply) → reply ≡ replies.Superseded planned (version_of (segment_at t.segments segment)) → (version_of (segment_at t.segments segment) == planned) ≡ false → IsSupersededBy t segment planned reply
is_so t segment planned reply is other = (λ h. differ _ _ other, λ h. is)

not_so : (t : Tables) (segment planned : ℕ) (reply : Reply) → ((p n : ℕ) → reply ≡ replies.Superseded p n → ⊥) → (version_of (segment_at t.segments segment) == planned) ≡ true → IsSupersededBy t segment planned reply
not_so t segment planned reply none same =
    (λ h. absurd (none planned (version_of (segment_at t.segments segment)) h), λ h. absurd (let equal : version_of (segment_at t.segments segment) ≡ planned = grind (arith, nat_tests, same) in h equal))

pub superseded_audit : (t : Tables) (now : ℕ) (judged : Judged) → IsValid t → is_accepted (step t (calls.Own now (tasks.EndAudit judged))).reply ≡ true
    → IsSupersededBy t judged.plan.segment.0 judged.plan.version (step t (calls.Own now (tasks.EndAudit judged))).reply
superseded_audit t now judged v h =
    let r = running t (calls.Own now (tasks.EndAudit judged)) is_accepted refl h in
    go (reply_of_case t (calls.Own now (tasks.EndAudit judged)) r.0) r.1 (audit_ends t (risen t now) judged)
  where
    reply : Reply
    reply = (step t (calls.Own now (tasks.EndAudit judged))).reply

    go : (step t (calls.Own now (tasks.EndAudit judged))).reply ≡ (end_audit t (risen t now) judged).reply → is_accepted (end_audit t (risen t now) judged).reply ≡ true → AuditEnds t (risen t now) judged
        → IsSupersededBy t judged.plan.segment.0 judged.plan.version (step t (calls.Own now (tasks.EndAudit judged))).reply
    go same taken (audit_not_open is) = absurd (let bad : true ≡ false = sym taken ∙ ap (λ (x : Outcome). is_accepted x.reply) is in cc)
    go same taken (audit_superseded held other is) = is_so t judged.plan.segment.0 judged.plan.version reply (same ∙ ap (λ (x : Outcome). x.reply) is) other
    go same taken (audit_done held version is) =
        not_so t judged.plan.segment.0 judged.plan.version reply (λ p n e. let bad = sym (same ∙ ap (λ (x : Outcome). x.reply) is) ∙ e in cc) version

module _ (t : Tables) (time kind : ℕ) (opened : Option RepairPlan) (outcome : RepairOutcome) (mendable : opened ≡ Some (plan_of outcome) → IsMendable t opened (plan_of outcome)) where
  not_mended : (found : SegmentRecord) (p n : ℕ) → (mending_of t time kind outcome found).reply ≡ replies.Superseded p n → ⊥
  not_mended found p n = by outcome
    where
      by : (o : RepairOutcome) → (mending_of t time kind o found).reply ≡ replies.Superseded p n → ⊥
      by (repairs.Mended mended) e = cc
      by (repairs.Unmended unmended) e = cc

  pub superseded_mending : (reply : Reply) → reply ≡ (end_mending t time kind opened outcome).reply → is_accepted (end_mending t time kind opened outcome).reply ≡ true
      → IsSupersededBy t (plan_of outcome).segment.0 (plan_of outcome).version reply
  superseded_mending reply same taken = go (mending_ends t time kind opened outcome)
    where
      -- where the segment is gone, the planned version isn't 0
      gone : opened ≡ Some (plan_of outcome) → segment_at t.segments (plan_of outcome).segment.0 ≡ None → (version_of (segment_at t.segments (plan_of outcome).segment.0) == (plan_of outcome).version) ≡ false
      gone holds at = let live = (mendable holds).live in let zero_is : version_of (segment_at t.segments (plan_of outcome).segment.0) ≡ 0 = ap version_of at in grind (arith, nat_tests, live, zero_is)

      go : MendingEnds t time kind opened outcome → IsSupersededBy t (plan_of outcome).segment.0 (plan_of outcome).version reply
      go (not_open is) = absurd (let bad : true ≡ false = sym taken ∙ ap (λ (x : Outcome). is_accepted x.reply) is in cc)
      go (gone_end holds at is) =
          is_so t (plan_of outcome).segment.0 (plan_of outcome).version reply
          (same ∙ ap (λ (x : Outcome). x.reply) is ∙ ap (λ (n : ℕ). replies.Superseded (plan_of outcome).version n) (sym (ap version_of at))) (gone holds at)
      go (superseded_end holds found at other is) =
          is_so t (plan_of outcome).segment.0 (plan_of outcome).version reply
          (same ∙ ap (λ (x : Outcome). x.reply) is ∙ ap (λ (o : Option SegmentRecord). replies.Superseded (plan_of outcome).version (version_of o)) (sym at))
          (ap (λ (o : Option SegmentRecord). version_of o == (plan_of outcome).version) at ∙ other)
      go (ended holds found at version is) =
          not_so t (plan_of outcome).segment.0 (plan_of outcome).version reply (λ p n e. not_mended found p n (sym (same ∙ ap (λ (x : Outcome). x.reply) is) ∙ e))
          (ap (λ (o : Option SegmentRecord). version_of o == (plan_of outcome).version) at ∙ version)

pub superseded_repair : (t : Tables) (now : ℕ) (outcome : RepairOutcome) → IsValid t → is_accepted (step t (calls.Own now (tasks.EndRepair outcome))).reply ≡ true
    → IsSupersededBy t (plan_of outcome).segment.0 (plan_of outcome).version (step t (calls.Own now (tasks.EndRepair outcome))).reply
superseded_repair t now outcome v h =
    let r = running t (calls.Own now (tasks.EndRepair outcome)) is_accepted refl h in
    superseded_mending t (risen t now) kinds.REPAIR_PLAN t.repair outcome (mendable_repair t v (plan_of outcome)) (step t (calls.Own now (tasks.EndRepair outcome))).reply (reply_of_case t (calls.Own now (tasks.EndRepair outcome)) r.0) r.1

pub superseded_move : (t : Tables) (now : ℕ) (outcome : RepairOutcome) → IsValid t → is_accepted (step t (calls.Own now (tasks.EndExit outcome))).reply ≡ true
    → IsSupersededBy t (plan_of outcome).segment.0 (plan_of outcome).version (step t (calls.Own now (tasks.EndExit outcome))).reply
superseded_move t now outcome v h =
    let r = running t (calls.Own now (tasks.EndExit outcome)) is_accepted refl h in
    superseded_mending t (risen t now) kinds.EXIT_PLAN (open_move t) outcome (mendable_move t v (plan_of outcome)) (step t (calls.Own now (tasks.EndExit outcome))).reply (reply_of_case t (calls.Own now (tasks.EndExit outcome)) r.0) r.1
