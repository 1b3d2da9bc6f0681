-- Nodes that keep the rule of reputations.
use Rattle.std.specs.Prelude.{◌≡◌, List, Some}
use Rattle.sat_base.specs.declared.ids.NodeId.{NodeId}
use Rattle.node_registry.specs.declared.node.Node.{Node}
use Rattle.node_registry.specs.Reputation.{IsRated}
use Rattle.node_registry.specs.Registry.{node_at}

-- each node is rated
abbrev pub AllRated : List Node → Type 0
AllRated nodes = (id : NodeId) (node : Node) → node_at nodes id ≡ Some node → IsRated node
