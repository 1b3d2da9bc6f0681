-- The rank of nodes that left.
use Rattle.std.specs.Prelude.{ℕ}
use Rattle.node_registry.specs.declared.node.Left.{Left}

-- a node that left stands by its id
abbrev pub left_rank : Left → ℕ
left_rank left = left.node.0
