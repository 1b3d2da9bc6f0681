-- Plans that can be asked: their pieces stand by rising index, below the scheme's n, at the places that are told.
use Rattle.std.specs.Prelude.{◌≡◌, ◌^◌, ◌<◌, ◌≤◌, List, All}
use Rattle.sat_base.specs.declared.requests.Place.{Place}
use Rattle.sat_base.specs.declared.scheme.Scheme.{Scheme}
use Rattle.bw_decode.specs.Near.{Rises}
use Rattle.audit_core.specs.declared.plan.AuditPlan.{AuditPlan}
use Rattle.audit_core.specs.declared.rechecking.RecheckPlan.{RecheckPlan}
use Rattle.audit_core.specs.Heard.{place_indexes}
use Rattle.repair_core.specs.declared.plan.RepairPlan.{RepairPlan}
use Rattle.node_asks.specs.Asks.{pieces_of}

pub record IsAuditable (scheme : Scheme) (plan : AuditPlan) (places : List Place) : Type 0 where
  pub places_are : pieces_of places ≡ plan.asked
  pub stripe : plan.stripe < 2 ^ 40
  pub rising : Rises (place_indexes plan.asked)
  pub below : All (λ index. index < scheme.n) (place_indexes plan.asked)

pub record IsRecheckable (plan : RecheckPlan) (place : Place) : Type 0 where
  pub node : place.node ≡ plan.node
  pub index : place.index ≡ plan.index
  pub stripe : plan.stripe < 2 ^ 40

pub record IsRepairable (scheme : Scheme) (plan : RepairPlan) (sources targets : List Place) : Type 0 where
  pub sources_are : pieces_of sources ≡ plan.sources
  pub targets_are : pieces_of targets ≡ plan.targets
  pub len : plan.len ≤ 2 ^ 40
  pub sources_rise : Rises (place_indexes plan.sources)
  pub sources_below : All (λ index. index < scheme.n) (place_indexes plan.sources)
  pub targets_rise : Rises (place_indexes plan.targets)
  pub targets_below : All (λ index. index < scheme.n) (place_indexes plan.targets)
