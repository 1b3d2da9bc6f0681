-- What contracts see of a real device: how many of its calls have failed.
use Rattle.std.specs.Prelude.{ℕ, None}
use Rattle.sat_base.specs.Outside.{About}

pub record Faults : Type 0 where
  pub reads : ℕ
  pub writes : ℕ

-- a real device tells its counts, and nothing else
abbrev pub device_about : Faults → About
device_about f = record { left = None; written = None; reads = None; read_faults = f.reads; write_faults = f.writes }
