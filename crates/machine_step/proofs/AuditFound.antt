-- What the end of an audit finds: the open plan, and its segment as it was planned.
use Rattle.std.proofs.Common.{◌≡◌, ℕ, ◌≤◌, Bool, true, false, not, Option, Some, None, IfSome, refl, ap, subst, ◌∙◌, arith}
use Rattle.std.specs.Prelude.{if◌then◌else◌, ◌==◌}
use Rattle.std.proofs.lemmas.Bool.Decides.{nat_tests}
use Rattle.rows.specs.Rows.{IsRising}
use Rattle.segment_core.specs.Record.{SegmentRecord}
use Rattle.segment_core.specs.Places.{index_of}
use Rattle.audit_core.specs.declared.plan.AuditPlan.{AuditPlan}
use Rattle.audit_core.specs.declared.verdict.Judged.{Judged}
use Rattle.machine_calls.specs.declared.refusal.Refusal.TheVariants as refusals
use Rattle.sat_base.specs.declared.kinds.TheConstants as kinds
use Rattle.machine_step.specs.Tables.{Tables, segment_at}
use Rattle.machine_step.specs.Outcome.{Outcome, refused, unless}
use Rattle.machine_step.specs.Containment.{is_live}
use Rattle.machine_step.specs.Health.{are_among}
use Rattle.machine_step.specs.Places.{subnets_of}
use Rattle.machine_step.specs.Plans.{same_audit, is_open, open_number, version_of, superseded}
use Rattle.machine_step.specs.Rules.{are_apart}
use Rattle.machine_step.specs.PlanRules.{is_none_or, is_planned_of, is_audit_of, is_sound_audit}
use Rattle.machine_step.specs.Calls.EndAudit.{audit_ended, end_audit_of, end_audit}
use Rattle.machine_step.specs.Bounds.{IsAuditWithin, IsValid}
use Rattle.machine_step.proofs.SameLemmas.{same-audit, open-is}
use Rattle.machine_step.proofs.IndexLemmas.{rising-by_index}
use Rattle.machine_step.proofs.Fits.{fine_found}

-- the segment of an open audit in the planned version; the asked pieces are its own, by rising index, in subnets apart
pub record AuditFound (t : Tables) (plan : AuditPlan) : Type 0 where
  pub segment : SegmentRecord
  pub at : segment_at t.segments plan.segment.0 ≡ Some segment
  pub version : segment.version ≡ plan.version
  pub live : is_live segment ≡ true
  pub among : are_among segment.pieces plan.asked ≡ true
  pub apart : are_apart (subnets_of t.nodes segment.pieces) ≡ true
  pub rising : IsRising index_of plan.asked

pub audit_found : (t : Tables) (v : IsValid t) (plan : AuditPlan) → t.audit ≡ Some plan → (version_of (segment_at t.segments plan.segment.0) == plan.version) ≡ true → AuditFound t plan
audit_found t v plan opened version = go (segment_at t.segments plan.segment.0) refl version
  where
    sound : is_sound_audit t.setup t.marks t.segments plan ≡ true
    sound = subst (λ (o : Option AuditPlan). is_none_or (is_sound_audit t.setup t.marks t.segments) o ≡ true) opened v.rules.audit

    within : IsAuditWithin plan
    within = subst (λ (o : Option AuditPlan). IfSome o IsAuditWithin) opened v.bounds.audit

    some : 1 ≤ plan.version
    some = let s = sound in grind (arith, nat_tests, s)

    planned : is_planned_of (segment_at t.segments plan.segment.0) plan.version (is_audit_of t.setup plan) ≡ true
    planned = let s = sound in grind (arith, nat_tests, s)

    go : (found : Option SegmentRecord) → segment_at t.segments plan.segment.0 ≡ found → (version_of found == plan.version) ≡ true → AuditFound t plan
    go None at same = let zero_is : 0 ≡ plan.version = grind (arith, nat_tests, same) in absurd (let le = some in omega (arith, le, zero_is))
    go (Some found) at same =
        let here : is_planned_of (Some found) plan.version (is_audit_of t.setup plan) ≡ true = subst (λ (o : Option SegmentRecord). is_planned_of o plan.version (is_audit_of t.setup plan) ≡ true) at planned in
        let version : found.version ≡ plan.version = grind (arith, nat_tests, same) in
        let le = some in
        record {
          segment = found;
          at = at;
          version = version;
          live = grind (arith, nat_tests, version, le);
          among = grind (arith, nat_tests, here, version);
          apart = (fine_found t v plan.segment.0 found at).apart;
          rising = rising-by_index plan.asked within.by_index;
        }

-- ---- how an end comes out

abbrev pub refused_end : Tables → Outcome
refused_end t = refused (refusals.NoPlan (open_number (λ plan. plan.plan) t.audit))

-- it is refused, superseded, or ends the audit
pub data AuditEnds (t : Tables) (time : ℕ) (judged : Judged) : Type 0 where
  not_open : end_audit t time judged ≡ refused_end t → AuditEnds t time judged
  superseded_end : t.audit ≡ Some judged.plan → (version_of (segment_at t.segments judged.plan.segment.0) == judged.plan.version) ≡ false
      → end_audit t time judged ≡ superseded t time kinds.AUDIT_PLAN judged.plan.version (version_of (segment_at t.segments judged.plan.segment.0)) → AuditEnds t time judged
  ended : t.audit ≡ Some judged.plan → (version_of (segment_at t.segments judged.plan.segment.0) == judged.plan.version) ≡ true → end_audit t time judged ≡ audit_ended t time judged → AuditEnds t time judged

pub audit_ends : (t : Tables) (time : ℕ) (judged : Judged) → AuditEnds t time judged
audit_ends t time judged = held (is_open same_audit t.audit judged.plan) refl
  where
    at : is_open same_audit t.audit judged.plan ≡ true → (b : Bool) → (version_of (segment_at t.segments judged.plan.segment.0) == judged.plan.version) ≡ b → AuditEnds t time judged
    at opened true is =
        ended (open-is same_audit same-audit t.audit judged.plan opened) is
        (ap (λ (b : Bool). unless (not b) (refusals.NoPlan (open_number (λ plan. plan.plan) t.audit)) (end_audit_of t time judged (version_of (segment_at t.segments judged.plan.segment.0)))) opened
        ∙ ap (λ (b : Bool). if b then audit_ended t time judged else superseded t time kinds.AUDIT_PLAN judged.plan.version (version_of (segment_at t.segments judged.plan.segment.0))) is)
    at opened false is =
        superseded_end (open-is same_audit same-audit t.audit judged.plan opened) is
        (ap (λ (b : Bool). unless (not b) (refusals.NoPlan (open_number (λ plan. plan.plan) t.audit)) (end_audit_of t time judged (version_of (segment_at t.segments judged.plan.segment.0)))) opened
        ∙ ap (λ (b : Bool). if b then audit_ended t time judged else superseded t time kinds.AUDIT_PLAN judged.plan.version (version_of (segment_at t.segments judged.plan.segment.0))) is)

    held : (b : Bool) → is_open same_audit t.audit judged.plan ≡ b → AuditEnds t time judged
    held true is = at is (version_of (segment_at t.segments judged.plan.segment.0) == judged.plan.version) refl
    held false is = not_open (ap (λ (b : Bool). unless (not b) (refusals.NoPlan (open_number (λ plan. plan.plan) t.audit)) (end_audit_of t time judged (version_of (segment_at t.segments judged.plan.segment.0)))) is)
