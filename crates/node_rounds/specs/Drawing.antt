-- Why words weren't drawn.
use Rattle.std.specs.Prelude.{◌≡◌, ℕ, ◌<◌, List, length, Option, true}
use Rattle.sat_base.specs.Outside.{CountsExactly, with_front}
use Rattle.sat_sessions.specs.declared.rounds.RoundEnd.{RoundEnd}
use Rattle.sat_sessions.specs.declared.rounds.RoundEnd.TheVariants as ends

-- there was no memory for them, and none was drawn; or a draw failed, and fewer were
abbrev pub Wants : ℕ → Option (List ℕ) → ℕ → Option (List ℕ) → ℕ → RoundEnd → Type 0
Wants number old faults new later ends.NoMemory = (new ≡ old) × (later ≡ faults)
Wants number old faults new later ends.WordsFault = (drawn : List ℕ) × (length drawn < number) × (old ≡ with_front drawn new) × CountsExactly true faults later
Wants number old faults new later _ = ⊥
