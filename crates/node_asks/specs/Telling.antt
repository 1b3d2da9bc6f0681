-- What holds of the sources of a repair once its fresh pieces are made, so that they can be put.
use Rattle.std.specs.Prelude.{◌≡◌, ℕ, ◌^◌, ◌≤◌, true, false, List, All}
use Rattle.std.specs.List.{AllZip}
use Rattle.sat_base.specs.declared.requests.Place.{Place}
use Rattle.sat_base.specs.declared.scheme.Scheme.{Scheme}
use Rattle.bw_decode.specs.Near.{Rises}
use Rattle.repair_core.specs.declared.plan.RepairPlan.{RepairPlan}
use Rattle.repair_core.specs.declared.rebuilt.Remade.{Remade}
use Rattle.repair_core.specs.Indexes.{has_index, place_indexes}
use Rattle.node_asks.specs.Asks.{piece_len_of, pieces_of}
use Rattle.node_asks.specs.Spreading.{IsFresh}

-- the sources that were missing or altered, and those that answered in every window
pub record AreSources (plan : RepairPlan) (blamed answered missing : List ℕ) : Type 0 where
  pub sources_rise : Rises (place_indexes plan.sources)
  pub blamed_rise : Rises blamed
  pub answered_rise : Rises answered
  pub missing_rise : Rises missing
  pub blamed_of_sources : All (λ index. has_index (place_indexes plan.sources) index ≡ true) blamed
  pub answered_of_sources : All (λ index. has_index (place_indexes plan.sources) index ≡ true) answered
  pub missing_of_sources : All (λ index. has_index (place_indexes plan.sources) index ≡ true) missing
  pub missing_silent : All (λ index. has_index missing index ≡ false) answered
  pub missing_apart : All (λ index. has_index missing index ≡ false) blamed

-- a whole fresh piece was made for each target
pub record CanSpread (scheme : Scheme) (plan : RepairPlan) (targets : List Place) (answered missing : List ℕ) (remade : Remade) : Type 0 where
  pub targets_are : pieces_of targets ≡ plan.targets
  pub targets_rise : Rises (place_indexes plan.targets)
  pub len : plan.len ≤ 2 ^ 40
  pub fresh : AllZip (IsFresh (piece_len_of scheme plan)) targets remade.fresh
  pub told : AreSources plan remade.blamed answered missing
