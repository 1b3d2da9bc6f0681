-- What the end of a recheck changes fits.
use Rattle.std.proofs.Common.{◌≡◌, ℕ, ◌+◌, ◌<◌, ◌≤◌, ◌^◌, Bool, true, false, not, [], ◌∷◌, Option, Some, None, refl, sym, ap, ◌∙◌, arith, inr, inl}
use Rattle.std.specs.Prelude.{if◌then◌else◌, nat_lt, ◌==◌, map, option_to_list}
use Rattle.std.proofs.lemmas.Bool.Decides.{nat_tests}
use Rattle.std.proofs.lemmas.Bool.{and_parts, and_from}
use Rattle.sat_base.specs.declared.limits.TheConstants as limits
use Rattle.sat_base.specs.declared.records.Containment.{Containment}
use Rattle.sat_base.specs.declared.records.Key.TheVariants as keys
use Rattle.sat_base.specs.Ranks.{containment_rank}
use Rattle.node_registry.specs.declared.node.Node.{Node}
use Rattle.node_registry.specs.declared.reputation.Outcome.{Outcome as Mark}
use Rattle.node_registry.specs.declared.reputation.Outcome.TheVariants.{Pass, Fail}
use Rattle.node_registry.specs.Registry.{node_at, contained_at}
use Rattle.audit_core.specs.declared.rechecking.RecheckPlan.{RecheckPlan}
use Rattle.audit_core.specs.declared.rechecking.Checked.{Checked}
use Rattle.audit_core.specs.declared.rechecking.Checked.TheVariants as checks
use Rattle.machine_calls.specs.declared.change.RecChange.TheVariants as changes
use Rattle.machine_calls.specs.declared.refusal.Refusal.TheVariants as refusals
use Rattle.machine_step.specs.Tables.{Tables, ledger_of, segment_at, all_changed}
use Rattle.machine_step.specs.Health.{after_outcome}
use Rattle.machine_step.specs.Plans.{timed, same_recheck, is_open, open_number}
use Rattle.machine_step.specs.Calls.EndRecheck.{is_as_planned, only, still_owed, settled_as, recheck_ended, recheck_void, end_recheck}
use Rattle.machine_step.specs.PlanRules.{has_stripe, is_owed}
use Rattle.machine_step.specs.Bounds.{Each, IsValid}
use Rattle.machine_step.proofs.Outcomes.{unless-P, if_found-P}
use Rattle.machine_step.proofs.RowLemmas.{all-found}
use Rattle.machine_step.proofs.Steady.{AllFit}
use Rattle.machine_step.proofs.Validity.{steady_of}
use Rattle.month_pay.specs.Keeping.{SamePay}
use Rattle.month_pay.proofs.Steps.{same_self}
use Rattle.machine_step.proofs.Fits.{After, still, fitting, fitting_apart, timed_fit}
use Rattle.machine_step.proofs.Paid.{IsStill, paid_puts}
use Rattle.machine_step.proofs.Batches.{CanUpdate, fit-append, fit-nodes}
use Rattle.machine_step.proofs.Rated.{can-outcome, still-outcome}
use Rattle.sat_base.specs.declared.kinds.TheConstants as kinds

module _ (t : Tables) (v : IsValid t) (time : ℕ) (le : t.marks.time ≤ time) (lt : time < 2 ^ 36) where
  -- the tables where the outcome is put
  abbrev closing : ℕ → Tables
  closing kind = all_changed t (changes.Marks (timed t.marks time) ∷ changes.Remove (keys.Plan kind) ∷ [])

  fit_recheck_void : After t (recheck_void t time)
  fit_recheck_void = fitting_apart t v (recheck_void t time) refl (timed_fit t v time le lt, (inr (inl refl), tt))

  fit_settled_as : (c : Containment) (mark : Mark) → AllFit t.marks.segment (closing kinds.RECHECK_PLAN) (settled_as t c mark)
  fit_settled_as c mark =
      let ns = option_to_list (after_outcome (node_at t.nodes c.node) mark) in
      fit-append t.marks.segment (map changes.Node ns) (changes.Remove (keys.Containment c.node) ∷ []) (closing kinds.RECHECK_PLAN) (fit-nodes t.marks.segment ns (closing kinds.RECHECK_PLAN) (listed (after_outcome (node_at t.nodes c.node) mark) refl)) (tt, tt)
    where
      listed : (o : Option Node) → after_outcome (node_at t.nodes c.node) mark ≡ o → Each (CanUpdate t.nodes) (option_to_list o)
      listed None is = tt
      listed (Some n) is = (can-outcome t v c.node (Some mark) n is, tt)

  paid_settled_as : (c : Containment) (mark : Mark) → SamePay (ledger_of t) (ledger_of (all_changed (closing kinds.RECHECK_PLAN) (settled_as t c mark)))
  paid_settled_as c mark =
      paid_puts t (closing kinds.RECHECK_PLAN) (option_to_list (after_outcome (node_at t.nodes c.node) mark)) refl (listed (after_outcome (node_at t.nodes c.node) mark) refl) (changes.Remove (keys.Containment c.node) ∷ []) (λ x. refl)
    where
      listed : (o : Option Node) → after_outcome (node_at t.nodes c.node) mark ≡ o → Each (IsStill t.nodes) (option_to_list o)
      listed None is = tt
      listed (Some n) is = (still-outcome t.nodes c.node (Some mark) n is, tt)

  paid_silent_again : (c : Containment) (b : Bool) → SamePay (ledger_of t) (ledger_of (all_changed (closing kinds.RECHECK_PLAN) (if b then settled_as t c Fail else changes.Containment (record c { tries = c.tries + 1 }) ∷ [])))
  paid_silent_again c true = paid_settled_as c Fail
  paid_silent_again c false = same_self (ledger_of t)

  fit_silent_again : (c : Containment) → nat_lt c.tries limits.TRIES ≡ true → has_stripe t.setup (segment_at t.segments c.segment.0) c.stripe ≡ true → nat_lt c.segment.0 t.marks.segment ≡ true → (b : Bool) → (c.tries + 1 == limits.TRIES) ≡ b
      → AllFit t.marks.segment (closing kinds.RECHECK_PLAN) (if b then settled_as t c Fail else changes.Containment (record c { tries = c.tries + 1 }) ∷ [])
  fit_silent_again c tries stripe below true is = fit_settled_as c Fail
  fit_silent_again c tries stripe below false is =
      let less : nat_lt (c.tries + 1) limits.TRIES ≡ true = grind (arith, nat_tests, tries, is) in
      (record { owed = and_from _ _ less stripe; below = below }, tt)

  fit_recheck_ended : (checked : Checked) (c : Containment) → is_owed t.setup t.segments c ≡ true → nat_lt c.segment.0 t.marks.segment ≡ true → After t (recheck_ended t time checked c)
  fit_recheck_ended checks.Pass c owes below = fitting t v (recheck_ended t time checks.Pass c) (paid_settled_as c Pass) (timed_fit t v time le lt, (inr (inl refl), fit_settled_as c Pass))
  fit_recheck_ended checks.Fail c owes below = fitting t v (recheck_ended t time checks.Fail c) (paid_settled_as c Fail) (timed_fit t v time le lt, (inr (inl refl), fit_settled_as c Fail))
  fit_recheck_ended checks.Silent c owes below =
      let parts = and_parts (nat_lt c.tries limits.TRIES) (has_stripe t.setup (segment_at t.segments c.segment.0) c.stripe) owes in
      fitting t v (recheck_ended t time checks.Silent c) (paid_silent_again c (c.tries + 1 == limits.TRIES)) (timed_fit t v time le lt, (inr (inl refl), fit_silent_again c parts.0 parts.1 below (c.tries + 1 == limits.TRIES) refl))

  only-is : (test : Containment → Bool) (found : Option Containment) (c : Containment) → only test found ≡ Some c → (found ≡ Some c) × (test c ≡ true)
  only-is test None c is = cc
  only-is test (Some x) c is = go (test x) refl is
    where
      go : (b : Bool) → test x ≡ b → (if b then Some x else None) ≡ Some c → (Some x ≡ Some c) × (test c ≡ true)
      go true passes same = let equal : x ≡ c = cc in (same, ap test (sym equal) ∙ passes)
      go false passes same = cc

  pub fit_end_recheck : (plan : RecheckPlan) (checked : Checked) → After t (end_recheck t time plan checked)
  fit_end_recheck plan checked =
      unless-P (After t) (still t v) (not (is_open same_recheck t.recheck plan)) (refusals.NoPlan (open_number (λ plan. plan.plan) t.recheck)) _ (λ held.
      if_found-P (After t) (still t v) (still_owed t plan) (recheck_void t time) (recheck_ended t time checked) fit_recheck_void (λ c is.
      let there = (only-is (is_as_planned plan) (contained_at t.containments plan.node) c is).0 in
      let s = (steady_of t v).containments in
      fit_recheck_ended checked c (all-found containment_rank (is_owed t.setup t.segments) t.containments plan.node.0 c s.owed there)
      (all-found containment_rank (λ x. nat_lt x.segment.0 t.marks.segment) t.containments plan.node.0 c s.below there)))
