-- Which pieces are healthy.
use Rattle.std.specs.Prelude.{Bool, false, List, Option, Some, None}
use Rattle.sat_base.specs.declared.records.At.{At}
use Rattle.node_registry.specs.declared.node.Node.{Node}
use Rattle.node_registry.specs.Standing.{is_counted}
use Rattle.node_registry.specs.Registry.{node_at}

-- whether the pieces on a node count; those on an unknown one don't
abbrev pub is_counting : Option Node → Bool
is_counting None = false
is_counting (Some node) = is_counted node.status

-- whether a piece is healthy, where these are the nodes
abbrev pub is_healthy : List Node → At → Bool
is_healthy nodes piece = is_counting (node_at nodes piece.node)
