-- Whether places stand by rising index.
use Rattle.std.specs.Prelude.{ℕ, ◌+◌, Bool, true, false, ◌||◌, List, [], ◌∷◌, nat_lt, nat_le, if◌then◌else◌}
use Rattle.sat_base.specs.declared.limits.TheConstants as limits
use Rattle.sat_base.specs.declared.records.At.{At}

-- the indexes rise from the least one that is allowed, and are below 128
abbrev pub is_rising : ℕ → List At → Bool
is_rising least [] = true
is_rising least (place ∷ rest) =
    if nat_lt place.index least || nat_le limits.PLACES place.index then false else is_rising (place.index + 1) rest
