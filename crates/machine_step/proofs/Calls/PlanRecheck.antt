-- What a planned recheck changes fits.
use Rattle.std.proofs.Common.{◌≡◌, ℕ, ◌<◌, ◌≤◌, ◌^◌, Bool, true, false, List, [], ◌∷◌, Option, Some, None, is_some, refl, sym, ap, ◌∙◌}
use Rattle.std.specs.Prelude.{nat_lt}
use Rattle.std.specs.List.{list_all}
use Rattle.std.proofs.lemmas.Bool.{and_parts, and_from}
use Rattle.sat_base.specs.declared.records.Containment.{Containment}
use Rattle.node_registry.specs.declared.node.Node.{Node}
use Rattle.node_registry.specs.Registry.{node_at}
use Rattle.machine_calls.specs.declared.refusal.Refusal.TheVariants as refusals
use Rattle.machine_calls.specs.declared.refusal.TableName.TheVariants as names
use Rattle.machine_step.specs.Tables.{Tables, segment_at}
use Rattle.machine_step.specs.Outcome.{unless}
use Rattle.machine_step.specs.Containment.{serves, place_of, has_live_piece, stands}
use Rattle.machine_step.specs.Plans.{has_no_plan}
use Rattle.machine_step.specs.Health.{first_of}
use Rattle.machine_step.specs.Calls.PlanRecheck.{recheck_planned, plan_recheck}
use Rattle.machine_step.specs.Bounds.{IsValid}
use Rattle.machine_step.proofs.Outcomes.{unless-P, with_record-P}
use Rattle.machine_step.proofs.Validity.{steady_of, all_stand}
use Rattle.machine_step.proofs.Fits.{After, still, fitting_apart}
use Rattle.machine_step.proofs.Drawn.{drawn_fit, is_drawn_now}

module _ (t : Tables) (v : IsValid t) (time : ℕ) (le : t.marks.time ≤ time) (lt : time < 2 ^ 36) where
  known-serving : (found : Option Node) → serves found ≡ true → is_some found ≡ true
  known-serving None h = cc
  known-serving (Some node) h = refl

  fit_recheck_planned : (c : Containment) → stands t c ≡ true → nat_lt c.segment.0 t.marks.segment ≡ true → has_no_plan t.marks ≡ false → After t (recheck_planned t time c)
  fit_recheck_planned c standing below number =
      let serving : serves (node_at t.nodes c.node) ≡ true = (and_parts (serves (node_at t.nodes c.node)) (has_live_piece (segment_at t.segments c.segment.0) (place_of c)) standing).0 in
      fitting_apart t v (recheck_planned t time c) refl
      (drawn_fit t v time le lt number, (record { sound = and_from _ _ (is_drawn_now t v time le lt c.segment.0 below) (known-serving (node_at t.nodes c.node) serving) }, tt))

  pub fit_plan_recheck : After t (plan_recheck t time)
  fit_plan_recheck =
      with_record-P (After t) (still t v) (first_of t.containments) refusals.NothingToRecheck (λ c. unless (has_no_plan t.marks) (refusals.TableFull names.Numbers) (recheck_planned t time c)) (λ c is.
      unless-P (After t) (still t v) (has_no_plan t.marks) (refusals.TableFull names.Numbers) (recheck_planned t time c) (λ number.
      fit_recheck_planned c (first-all (stands t) t.containments c (all_stand t v) is) (first-all (λ x. nat_lt x.segment.0 t.marks.segment) t.containments c (steady_of t v).containments.below is) number))
    where
      first-all : (test : Containment → Bool) (rows : List Containment) (c : Containment) → list_all test rows ≡ true → first_of rows ≡ Some c → test c ≡ true
      first-all test [] c all is = cc
      first-all test (x ∷ rows) c all is = let same : x ≡ c = cc in ap test (sym same) ∙ (and_parts (test x) (list_all test rows) all).0
      -- ---- EndRecheck
