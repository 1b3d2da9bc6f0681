-- Subnets of IPv4 addresses.
use Rattle.std.specs.Prelude.{ℕ, ◌/◌}

-- an address's first three bytes, as a number
abbrev pub subnet_at : ℕ → ℕ
subnet_at addr = addr / 256
