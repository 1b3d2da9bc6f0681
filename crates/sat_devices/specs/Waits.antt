-- What contracts see of real lanes and ticks: what they wait for, and the counts of what came.
use Rattle.std.specs.Prelude.{ℕ, Bool, None}
use Rattle.sat_base.specs.Lane.{LaneView}
use Rattle.sat_base.specs.Ticks.{TicksView}

-- connections at a port
pub record AtPort : Type 0 where
  pub port : ℕ
  -- how many were handed out
  pub given : ℕ
  -- none comes any more
  pub over : Bool
  -- how many waits failed
  pub faults : ℕ

-- a real lane tells its counts, and whether it is over
abbrev pub lane_about : AtPort → LaneView
lane_about l = record { links = None; given = l.given; over = l.over; faults = l.faults }

-- ticks so many seconds apart
pub record Every : Type 0 where
  pub seconds : ℕ
  -- how many came
  pub given : ℕ
  -- none comes any more
  pub over : Bool

-- real ticks tell how many came, and whether they are over
abbrev pub ticks_about : Every → TicksView
ticks_about t = record { given = t.given; over = t.over }
