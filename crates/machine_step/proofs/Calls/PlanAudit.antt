-- What a planned audit changes fits.
use Rattle.std.proofs.Common.{◌≡◌, ℕ, ◌<◌, ◌≤◌, ◌^◌, true, false, List, Some, refl, arith}
use Rattle.std.specs.Prelude.{nat_lt, slice_index}
use Rattle.std.proofs.lemmas.Bool.Decides.{nat_tests}
use Rattle.std.proofs.lemmas.Bool.{and_from}
use Rattle.sat_base.specs.Scheme.{stripe_count}
use Rattle.segment_core.specs.Record.{SegmentRecord}
use Rattle.repair_core.proofs.Numbers.{some_stripes}
use Rattle.machine_calls.specs.declared.refusal.Refusal.TheVariants as refusals
use Rattle.machine_calls.specs.declared.refusal.TableName.TheVariants as names
use Rattle.machine_step.specs.Tables.{Tables, segment_at}
use Rattle.machine_step.specs.Containment.{is_live}
use Rattle.machine_step.specs.Health.{live_segments, picked}
use Rattle.machine_step.specs.Plans.{has_no_plan}
use Rattle.machine_step.specs.Calls.PlanAudit.{is_asked, audit_of, audit_planned, audit_numbered, plan_audit}
use Rattle.machine_step.specs.PlanRules.{is_planned_of, stripes_of, is_audit_of}
use Rattle.machine_step.specs.Bounds.{IsValid}
use Rattle.machine_step.proofs.Outcomes.{unless-P, with_record-P}
use Rattle.machine_step.proofs.Fits.{After, still, fitting_apart, fine_found}
use Rattle.machine_step.proofs.Drawn.{live-found, some-within, among-some, drawn_fit, is_drawn_now, version_now}

module _ (t : Tables) (v : IsValid t) (time : ℕ) (le : t.marks.time ≤ time) (lt : time < 2 ^ 36) where
  fit_audit_planned : (found : SegmentRecord) (word : ℕ) → is_live found ≡ true → segment_at t.segments found.id.0 ≡ Some found → has_no_plan t.marks ≡ false → After t (audit_planned t time (audit_of t time found word))
  fit_audit_planned found word live at number =
      let plan = audit_of t time found word in
      let f = fine_found t v found.id.0 found at in
      let scheme = v.bounds.setup.scheme in
      let some : 1 ≤ found.len = let sized = f.sized in grind (arith, nat_tests, sized) in
      let stripes : 1 ≤ stripe_count t.setup.k t.setup.share found.len = some_stripes t.setup.k t.setup.share found.len scheme.rebuilds scheme.some_bytes some in
      let stripe_lt : plan.stripe < stripe_count t.setup.k t.setup.share found.len = omega (arith, stripes) in
      let stripe : nat_lt plan.stripe (stripes_of t.setup found) ≡ true = grind (arith, nat_tests, stripe_lt) in
      let of : is_audit_of t.setup plan found ≡ true = and_from _ _ stripe (among-some found.pieces (is_asked t)) in
      let planned : is_planned_of (segment_at t.segments found.id.0) found.version (is_audit_of t.setup plan) ≡ true = rw at (grind (arith, nat_tests, of)) in
      let below : found.id.0 < t.marks.segment = let b = f.below in grind (arith, nat_tests, b) in
      fitting_apart t v (audit_planned t time plan) refl (
        drawn_fit t v time le lt number,
        (
          record {
            sound = and_from _ _ (is_drawn_now t v time le lt found.id.0 f.below) (and_from _ _ (version_now t v time le lt found live f.version) planned);
            below = below;
            within = some-within t v (is_asked t) found.id.0 found at;
          },
          tt,
        ),
      )

  pub fit_plan_audit : (words : List ℕ) → After t (plan_audit t time words)
  fit_plan_audit words =
      with_record-P (After t) (still t v) (picked (live_segments t) (slice_index words 0)) refusals.NothingToAudit (λ found. audit_numbered t time (audit_of t time found (slice_index words 1))) (λ found is.
      let there = live-found t v (slice_index words 0) found is in
      unless-P (After t) (still t v) (has_no_plan t.marks) (refusals.TableFull names.Numbers) (audit_planned t time (audit_of t time found (slice_index words 1))) (λ number.
      fit_audit_planned found (slice_index words 1) there.0 there.1 number))
