-- What `drill` writes.
use Rattle.std.specs.Prelude.{◌≡◌, ◌⊎◌, ℕ, Option, Some, None}
use Rattle.sat_base.specs.Outside.{About, Rose, with_end}
use Rattle.sat_console.specs.Run.{Says, fault_line}
use Rattle.sat_drill.specs.Drill.{IsDrilled}
use Rattle.sat_drill.specs.declared.drilling.Drilled.{Drilled}

-- the text of the drill was written, or a front of it at status 5
pub record IsTold (d : Drilled) (status : ℕ) (old new : About) : Type 0 where
  pub drilled : IsDrilled d.opening.items d.history.items d.wrong d.text
  pub says : Says d.text old new
  pub ends : ((status ≡ 0) × (new.written ≡ with_end old.written d.text)) ⊎ ((status ≡ 5) × Rose old.write_faults new.write_faults)

-- a drill by what it did; there is none where memory ran out
abbrev pub Drills : ℕ → About → About → Option Drilled → Type 0
Drills status old new (Some d) = IsTold d status old new
Drills status old new None = (status ≡ 9) × Says (fault_line 9) old new
