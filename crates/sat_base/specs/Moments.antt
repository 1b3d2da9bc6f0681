-- Moments, in Unix seconds.
use Rattle.std.specs.Prelude.{ℕ, ◌<◌}
use Rattle.sat_base.specs.declared.limits.TheConstants as limits

abbrev pub IsMoment : ℕ → Type 0
IsMoment n = n < limits.MOMENTS
