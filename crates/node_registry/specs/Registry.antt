-- The nodes by id.
use Rattle.std.specs.Prelude.{◌≡◌, ℕ, suc, ◌≤◌, List, [], ◌∷◌, length, Option}
use Rattle.sat_base.specs.declared.limits.TheConstants as limits
use Rattle.sat_base.specs.declared.ids.NodeId.{NodeId}
use Rattle.sat_base.specs.declared.records.Containment.{Containment}
use Rattle.sat_base.specs.Ranks.{containment_rank}
use Rattle.rows.specs.Rows.{row_at, replaced}
use Rattle.node_registry.specs.declared.node.Node.{Node}
use Rattle.node_registry.specs.declared.node.Status.TheVariants.{Active}
use Rattle.node_registry.specs.declared.node.TheConstants.{FIRST_ALPHA}

-- what contracts see: the nodes, and for how many more there is room
pub record Nodes : Type 0 where
  pub nodes : List Node
  pub spare_nodes : ℕ

-- a node as it joins
abbrev pub joining : NodeId → ℕ → ℕ → ℕ → ℕ → Node
joining id addr port free time = record {
  id = id;
  addr = addr;
  port = port;
  free = free;
  joined = time;
  alpha = FIRST_ALPHA;
  beta = 0;
  passes = 0;
  status = Active;
}

abbrev pub node_rank : Node → ℕ
node_rank node = node.id.0

-- the node of an id
abbrev pub node_at : List Node → NodeId → Option Node
node_at nodes id = row_at node_rank nodes id.0

-- the containment of a node, among these
abbrev pub contained_at : List Containment → NodeId → Option Containment
contained_at contained id = row_at containment_rank contained id.0

-- the nodes with this one in place of the one of its id
abbrev pub with_node : Node → List Node → List Node
with_node node nodes = replaced node_rank node nodes

-- the ids count up from this one
abbrev pub CountsFrom : ℕ → List Node → Type 0
CountsFrom k [] = Unit {0}
CountsFrom k (node ∷ rest) = (node.id.0 ≡ k) × CountsFrom (suc k) rest

-- the ids are 1 to the number of nodes
abbrev pub IsNumbered : List Node → Type 0
IsNumbered nodes = CountsFrom 1 nodes

-- what holds of every table
pub record IsKept (nodes : List Node) : Type 0 where
  pub numbered : IsNumbered nodes
  pub within : length nodes ≤ limits.NODES
