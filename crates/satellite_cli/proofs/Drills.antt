-- A drill that ends well.
use Rattle.std.proofs.Common.{◌≡◌, ℕ, Option, Some, None, inl, inr}
use Rattle.std.specs.Prelude.{◌⊎◌}
use Rattle.sat_base.specs.Outside.{About, Rose}
use Rattle.sat_drill.specs.declared.drilling.Drilled.{Drilled}
use Rattle.satellite_cli.specs.Drilling.{Drills}

pub drills_well : (status : ℕ) (old new : About) (drilled : Option Drilled) → Drills status old new drilled → (Rose old.write_faults new.write_faults → ⊥) → (status ≡ 0) ⊎ (status ≡ 9)
drills_well status old new None d no_cut = inr d.0
drills_well status old new (Some drilled) d no_cut = elim d.ends [
  | inl well ↦ inl well.0
  | inr cut ↦ absurd (no_cut cut.1)
]
