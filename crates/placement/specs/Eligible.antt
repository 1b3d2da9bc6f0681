-- Which nodes may be picked next, and which of them is.
use Rattle.std.specs.Prelude.{ℕ, ◌%◌, Bool, true, false, ◌&&◌, not, List, [], ◌++◌, length, map, filter, Option, nat_eq, nat_le, nat_lt, slice_get, slice_index}
use Rattle.std.specs.Set.{is_member, distinct_count}
use Rattle.node_registry.specs.Subnet.{subnet_at}
use Rattle.node_registry.specs.declared.node.Node.{Node}
use Rattle.node_registry.specs.declared.node.Status.{Status}
use Rattle.node_registry.specs.declared.node.Status.TheVariants.{Active, Disqualified, Exiting, Exited}
use Rattle.placement.specs.declared.request.Class.{Class}
use Rattle.placement.specs.declared.request.Class.TheVariants.{Vetted, Unvetted}

-- what is asked of a placement
pub record Terms : Type 0 where
  -- by id
  pub nodes : List Node
  -- from how many passes on a node is vetted
  pub vet : ℕ
  -- the subnets in which no node may be picked
  pub taken : List ℕ
  -- how many bytes must be free
  pub piece_len : ℕ
  -- one for each pick
  pub words : List ℕ

-- the terms of these arguments
abbrev pub terms : List Node → ℕ → List ℕ → ℕ → List ℕ → Terms
terms nodes vet taken piece_len words = record { nodes = nodes; vet = vet; taken = taken; piece_len = piece_len; words = words }

abbrev pub is_active : Status → Bool
is_active Active = true
is_active Disqualified = false
is_active Exiting = false
is_active Exited = false

-- whether a node takes new pieces and has room for this one
abbrev pub is_open : Terms → Node → Bool
is_open terms node = is_active node.status && nat_le terms.piece_len node.free

-- an address's first three bytes
abbrev pub subnet_of : Node → ℕ
subnet_of node = subnet_at node.addr

-- the subnets in which no node may be picked after these picks
abbrev pub used : Terms → List Node → List ℕ
used terms picks = terms.taken ++ map subnet_of picks

-- whether a node is eligible where these subnets are used
abbrev pub is_eligible : Terms → List ℕ → Node → Bool
is_eligible terms subnets node = is_open terms node && not (is_member nat_eq subnets (subnet_of node))

-- the nodes that are eligible after these picks, by id
abbrev pub eligible : Terms → List Node → List Node
eligible terms picks = filter (is_eligible terms (used terms picks)) terms.nodes

-- a vetted node has passed enough audits
abbrev pub is_of : Class → ℕ → Node → Bool
is_of Vetted vet node = nat_le vet node.passes
is_of Unvetted vet node = nat_lt node.passes vet

-- those of one class
abbrev pub eligible_of : Terms → Class → List Node → List Node
eligible_of terms class picks = filter (is_of class terms.vet) (eligible terms picks)

-- the pick of a class that comes after these: its word, modulo the number of the eligible nodes of the class, is its place among them
abbrev pub next_pick : Terms → Class → List Node → Option Node
next_pick terms class picks =
    let among = eligible_of terms class picks in
    slice_get among (slice_index terms.words (length picks) % length among)

-- in how many subnets there are eligible nodes at the start
abbrev pub subnet_count : Terms → ℕ
subnet_count terms = distinct_count nat_eq (map subnet_of (eligible terms []))
