-- What the end of an audit changes fits.
use Rattle.std.proofs.Common.{◌≡◌, ℕ, ◌<◌, ◌≤◌, ◌^◌, Bool, true, false, not, List, [], ◌∷◌, Option, Some, None, refl, sym, subst, arith, inl}
use Rattle.std.specs.Prelude.{if◌then◌else◌, nat_lt, ◌==◌, map, option_map}
use Rattle.std.proofs.lemmas.Bool.Decides.{nat_tests}
use Rattle.sat_base.specs.declared.records.At.{At}
use Rattle.sat_base.specs.declared.records.Containment.{Containment}
use Rattle.sat_base.specs.declared.records.Key.TheVariants as keys
use Rattle.segment_core.specs.Record.{SegmentRecord}
use Rattle.audit_core.specs.declared.plan.AuditPlan.{AuditPlan}
use Rattle.audit_core.specs.declared.verdict.Judged.{Judged}
use Rattle.audit_core.specs.declared.verdict.Silent.{Silent}
use Rattle.machine_calls.specs.declared.change.RecChange.TheVariants as changes
use Rattle.machine_calls.specs.declared.refusal.Refusal.TheVariants as refusals
use Rattle.machine_step.specs.Tables.{Tables, segment_at, all_changed}
use Rattle.machine_step.specs.Plans.{timed, same_audit, is_open, open_number, version_of, superseded}
use Rattle.machine_step.specs.Calls.EndAudit.{mark_of, node_after, nodes_after, owed, containment_for, is_free, containment_after, containments_after, audit_ended, end_audit_of, end_audit}
use Rattle.machine_step.specs.PlanRules.{is_planned_of, is_audit_of, is_sound_audit, is_none_or, has_stripe}
use Rattle.machine_step.specs.Bounds.{Each, IsValid}
use Rattle.machine_step.proofs.Outcomes.{unless-P}
use Rattle.machine_step.proofs.SameLemmas.{same-audit, open-is}
use Rattle.machine_step.proofs.Steady.{AllFit}
use Rattle.machine_step.proofs.Fits.{After, still, fitting, timed_fit}
use Rattle.machine_step.proofs.Drawn.{fit_superseded}
use Rattle.machine_step.proofs.Paid.{IsStill, ledger-containments, paid_puts}
use Rattle.machine_step.proofs.Batches.{CanUpdate, fit-append, fit-nodes, puts_of, nodes-put, OwedIn, fit-containments, each-mapped}
use Rattle.machine_step.proofs.Rated.{can-outcome, still-outcome}
use Rattle.sat_base.specs.declared.kinds.TheConstants as kinds

module _ (t : Tables) (v : IsValid t) (time : ℕ) (le : t.marks.time ≤ time) (lt : time < 2 ^ 36) where
  -- the tables where the outcomes are put
  abbrev closing : ℕ → Tables
  closing kind = all_changed t (changes.Marks (timed t.marks time) ∷ changes.Remove (keys.Plan kind) ∷ [])

  audit_stripe : (plan : AuditPlan) → t.audit ≡ Some plan → (version_of (segment_at t.segments plan.segment.0) == plan.version) ≡ true
      → (has_stripe t.setup (segment_at t.segments plan.segment.0) plan.stripe ≡ true) × (nat_lt plan.segment.0 t.marks.segment ≡ true)
  audit_stripe plan opened version =
      let sound : is_sound_audit t.setup t.marks t.segments plan ≡ true = subst (λ (o : Option AuditPlan). is_none_or (is_sound_audit t.setup t.marks t.segments) o ≡ true) opened v.rules.audit in
      let planned : is_planned_of (segment_at t.segments plan.segment.0) plan.version (is_audit_of t.setup plan) ≡ true = grind (arith, nat_tests, sound) in
      let below : nat_lt plan.segment.0 t.marks.segment ≡ true = grind (arith, nat_tests, sound) in
      (go (segment_at t.segments plan.segment.0) version planned, below)
    where
      go : (found : Option SegmentRecord) → (version_of found == plan.version) ≡ true → is_planned_of found plan.version (is_audit_of t.setup plan) ≡ true → has_stripe t.setup found plan.stripe ≡ true
      go None same planned = refl
      go (Some found) same planned = grind (arith, nat_tests, same, planned)

  fit_audit_ended : (judged : Judged) → t.audit ≡ Some judged.plan → (version_of (segment_at t.segments judged.plan.segment.0) == judged.plan.version) ≡ true → After t (audit_ended t time judged)
  fit_audit_ended judged opened version =
      let from = t.marks.segment in
      let here = closing kinds.AUDIT_PLAN in
      let ns = nodes_after t judged in
      let cs = containments_after t judged in
      let facts = audit_stripe judged.plan opened version in
      let can : Each (CanUpdate t.nodes) ns = each-mapped (CanUpdate t.nodes) (node_after t.nodes judged) judged.plan.asked (λ piece n is. can-outcome t v piece.node (mark_of judged piece.index) n is) in
      let owes : Each (OwedIn from t) cs = each-mapped (OwedIn from t) (containment_after t judged) judged.plan.asked (λ piece c is. owing piece c (is_free t piece) (owed judged piece.index) facts is) in
      let put : all_changed here (map changes.Node ns) ≡ record here { nodes = puts_of here.nodes ns } = nodes-put ns here in
      let contained : AllFit from (all_changed here (map changes.Node ns)) (map changes.Containment cs)
      = subst (λ (x : Tables). AllFit from x (map changes.Containment cs)) (sym put) (fit-containments from cs (record here { nodes = puts_of here.nodes ns }) (owing-here cs owes)) in
      let still_ns : Each (IsStill t.nodes) ns = each-mapped (IsStill t.nodes) (node_after t.nodes judged) judged.plan.asked (λ piece n is. still-outcome t.nodes piece.node (mark_of judged piece.index) n is) in
      fitting t v (audit_ended t time judged) (paid_puts t here ns refl still_ns (map changes.Containment cs) (ledger-containments cs))
      (timed_fit t v time le lt, (inl refl, fit-append from (map changes.Node ns) (map changes.Containment cs) here (fit-nodes from ns here can) contained))
    where
      owing : (piece : At) (c : Containment) (free : Bool) (silent : Option Silent) → (has_stripe t.setup (segment_at t.segments judged.plan.segment.0) judged.plan.stripe ≡ true) × (nat_lt judged.plan.segment.0 t.marks.segment ≡ true)
          → (if free then option_map (containment_for judged.plan piece) silent else None) ≡ Some c → OwedIn t.marks.segment t c
      owing piece c true (Some silent) facts is =
          let same : containment_for judged.plan piece silent ≡ c = cc in
          subst (λ (x : Containment). OwedIn t.marks.segment t x) same (facts.0, facts.1)
      owing piece c true None facts is = cc
      owing piece c false silent facts is = cc

      owing-here : (cs : List Containment) → Each (OwedIn t.marks.segment t) cs → Each (OwedIn t.marks.segment (record (closing kinds.AUDIT_PLAN) { nodes = puts_of t.nodes (nodes_after t judged) })) cs
      owing-here cs each = each

  not-false : (b : Bool) → not b ≡ false → b ≡ true
  not-false true h = refl
  not-false false h = cc

  pub fit_end_audit : (judged : Judged) → After t (end_audit t time judged)
  fit_end_audit judged =
      let version = version_of (segment_at t.segments judged.plan.segment.0) in
      unless-P (After t) (still t v) (not (is_open same_audit t.audit judged.plan)) (refusals.NoPlan (open_number (λ plan. plan.plan) t.audit)) (end_audit_of t time judged version) (λ held.
      let opened = open-is same_audit same-audit t.audit judged.plan (not-false (is_open same_audit t.audit judged.plan) held) in
      at (version == judged.plan.version) refl opened)
    where
      at : (b : Bool) → (version_of (segment_at t.segments judged.plan.segment.0) == judged.plan.version) ≡ b → t.audit ≡ Some judged.plan
          → After t (if b then audit_ended t time judged else superseded t time kinds.AUDIT_PLAN judged.plan.version (version_of (segment_at t.segments judged.plan.segment.0)))
      at true is opened = fit_audit_ended judged opened is
      at false is opened = fit_superseded t v time le lt kinds.AUDIT_PLAN judged.plan.version (version_of (segment_at t.segments judged.plan.segment.0)) (inl refl)
      -- ---- PlanRecheck
