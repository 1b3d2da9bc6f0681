-- A containment that is asked for again was silent again at most twice.
use Rattle.std.proofs.Common.{◌≡◌, ◌<◌, Bool, true, false, Option, Some, None, arith}
use Rattle.std.specs.Prelude.{if◌then◌else◌, nat_lt}
use Rattle.std.proofs.lemmas.Bool.Decides.{nat_tests}
use Rattle.std.proofs.lemmas.Bool.{and_parts}
use Rattle.sat_base.specs.declared.limits.TheConstants as limits
use Rattle.sat_base.specs.Ranks.{containment_rank}
use Rattle.sat_base.specs.declared.records.Containment.{Containment}
use Rattle.node_registry.specs.Registry.{contained_at}
use Rattle.audit_core.specs.declared.rechecking.RecheckPlan.{RecheckPlan}
use Rattle.machine_step.specs.Bounds.{IsValid}
use Rattle.machine_step.specs.Calls.EndRecheck.{is_as_planned, only, still_owed}
use Rattle.machine_step.specs.PlanRules.{is_owed, has_stripe}
use Rattle.machine_step.specs.Tables.{Tables, segment_at}
use Rattle.machine_step.proofs.RowLemmas.{all-found}
use Rattle.machine_step.proofs.Validity.{steady_of}

only-found : (test : Containment → Bool) (found : Option Containment) (row : Containment) → only test found ≡ Some row → found ≡ Some row
only-found test None row is = cc
only-found test (Some x) row is = go (test x) is
  where
    go : (b : Bool) → (if b then Some x else None) ≡ Some row → Some x ≡ Some row
    go true same = same
    go false same = cc

pub few-tries : (t : Tables) (v : IsValid t) (plan : RecheckPlan) (row : Containment) → still_owed t plan ≡ Some row → row.tries < limits.TRIES
few-tries t v plan row is =
    let there = only-found (is_as_planned plan) (contained_at t.containments plan.node) row is in
    let owes = all-found containment_rank (is_owed t.setup t.segments) t.containments plan.node.0 row (steady_of t v).containments.owed there in
    let few = (and_parts (nat_lt row.tries limits.TRIES) (has_stripe t.setup (segment_at t.segments row.segment.0) row.stripe) owes).0 in
    grind (arith, nat_tests, few)
