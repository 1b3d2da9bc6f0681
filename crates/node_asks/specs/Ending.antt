-- How a repair ends whose pieces were made.
use Rattle.std.specs.Prelude.{◌≡◌, ℕ, ◌<◌, ◌≤◌, not, false, true, List, length, filter, All}
use Rattle.sat_base.specs.declared.scheme.Scheme.{Scheme}
use Rattle.bw_decode.specs.Near.{Rises}
use Rattle.repair_core.specs.declared.plan.RepairPlan.{RepairPlan}
use Rattle.repair_core.specs.declared.outcome.RepairOutcome.{RepairOutcome}
use Rattle.repair_core.specs.declared.outcome.RepairOutcome.TheVariants.{Mended, Unmended}
use Rattle.repair_core.specs.Indexes.{has_index, place_indexes}

-- the sources that answered in every window, those that were missing or altered, and the targets that are kept
pub record Told (plan : RepairPlan) (blamed answered placed missing : List ℕ) : Type 0 where
  pub sources_rise : Rises (place_indexes plan.sources)
  pub blamed_rise : Rises blamed
  pub answered_rise : Rises answered
  pub placed_rise : Rises placed
  pub missing_rise : Rises missing
  pub blamed_of_sources : All (λ index. has_index (place_indexes plan.sources) index ≡ true) blamed
  pub answered_of_sources : All (λ index. has_index (place_indexes plan.sources) index ≡ true) answered
  pub placed_at_targets : All (λ index. has_index (place_indexes plan.targets) index ≡ true) placed
  pub missing_of_sources : All (λ index. has_index (place_indexes plan.sources) index ≡ true) missing
  pub missing_silent : All (λ index. has_index missing index ≡ false) answered
  pub missing_apart : All (λ index. has_index missing index ≡ false) blamed

-- those that answered and weren't altered
abbrev pub sound_of : List ℕ → List ℕ → List ℕ
sound_of blamed answered = filter (λ index. not (has_index blamed index)) answered

-- the repair is mended exactly where at least k sources answered and weren't altered
abbrev pub IsConcluded : Scheme → RepairPlan → List ℕ → List ℕ → List ℕ → List ℕ → RepairOutcome → Type 0
IsConcluded scheme plan blamed answered placed missing (Mended mended) =
    (scheme.k ≤ length (sound_of blamed answered)) × (mended.scheme ≡ scheme) × (mended.plan ≡ plan) × (mended.placed ≡ placed)
    × (mended.blamed ≡ blamed) × (mended.missing ≡ missing)
IsConcluded scheme plan blamed answered placed missing (Unmended unmended) =
    (length (sound_of blamed answered) < scheme.k) × (unmended.plan ≡ plan) × (unmended.missing ≡ missing)
