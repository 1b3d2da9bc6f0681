-- What ticks tell, and how a wait for one changes it.
use Rattle.std.specs.Prelude.{◌≡◌, ℕ, Bool, false, true}
use Rattle.sat_base.specs.declared.ticks.Beat.{Beat}
use Rattle.sat_base.specs.declared.ticks.Beat.TheVariants as beats
use Rattle.sat_base.specs.Outside.{raised}

-- what contracts see of ticks
pub record TicksView : Type 0 where
  -- how many ticks came. It stands still at 2^64 - 1
  pub given : ℕ
  -- no tick will come any more
  pub over : Bool

-- what a wait for the next tick does
abbrev pub Beats : TicksView → Beat → TicksView → Type 0
Beats before beats.Tick after = (before.over ≡ false) × (after ≡ record before { given = raised before.given })
Beats before beats.Ended after = after ≡ record before { over = true }

-- what contracts see of ticks in memory
pub record MemTicksView : Type 0 where
  -- how many ticks are still to come
  pub coming : ℕ
  pub ticks : TicksView
