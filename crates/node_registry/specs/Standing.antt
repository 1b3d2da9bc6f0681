-- What a node's status means.
use Rattle.std.specs.Prelude.{ℕ, Bool, true, false}
use Rattle.node_registry.specs.declared.node.Status.{Status}
use Rattle.node_registry.specs.declared.node.Status.TheVariants.{Active, Disqualified, Exiting, Exited}

-- a status's number
abbrev pub byte_of : Status → ℕ
byte_of Active = 0
byte_of Disqualified = 1
byte_of Exiting = 2
byte_of Exited = 3

-- whether the pieces of a node count as healthy
abbrev pub is_counted : Status → Bool
is_counted Active = true
is_counted Disqualified = false
is_counted Exiting = true
is_counted Exited = false

-- whether a node serves its pieces, and so is audited
abbrev pub is_serving : Status → Bool
is_serving Active = true
is_serving Disqualified = false
is_serving Exiting = true
is_serving Exited = false

abbrev pub is_disqualified : Status → Bool
is_disqualified Disqualified = true
is_disqualified _ = false
