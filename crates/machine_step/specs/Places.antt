-- The places of pieces: those that a placement picks, and where uplinks find them.
use Rattle.std.specs.Prelude.{ℕ, zero, suc, ◌-◌, List, [], ◌∷◌, ◌++◌, length, map, Option, Some, None}
use Rattle.sat_base.specs.declared.ids.NodeId.{NodeId}
use Rattle.sat_base.specs.declared.records.At.{At}
use Rattle.sat_base.specs.declared.requests.Place.{Place}
use Rattle.node_registry.specs.declared.node.Node.{Node}
use Rattle.node_registry.specs.Registry.{node_at}
use Rattle.node_registry.specs.Subnet.{subnet_at}
use Rattle.placement.specs.declared.request.Class.{Class}
use Rattle.placement.specs.declared.request.Class.TheVariants.{Vetted, Unvetted}
use Rattle.placement.specs.Eligible.{Terms, next_pick}

-- the picks with one more, where there is one
abbrev pub and_next : List Node → Option Node → List Node
and_next picks None = picks
and_next picks (Some node) = picks ++ node ∷ []

-- up to a quota of picks of a class, behind those before
abbrev pub picks_more : Terms → Class → ℕ → List Node → List Node
picks_more terms class zero before = before
picks_more terms class (suc quota) before =
    let picks = picks_more terms class quota before in and_next picks (next_pick terms class picks)

-- the picks of a placement, in its four phases: need - fresh of the vetted; fresh of the others; what is still wanted, of the vetted; what is still wanted, of the others
abbrev pub picks_of : Terms → ℕ → ℕ → List Node
picks_of terms need fresh =
    let first = picks_more terms Vetted (need - fresh) [] in
    let second = picks_more terms Unvetted fresh first in
    let third = picks_more terms Vetted (need - length second) second in
    picks_more terms Unvetted (need - length third) third

-- pieces at these nodes, their indexes counted up from i
abbrev pub pieces_from : ℕ → List NodeId → List At
pieces_from i [] = []
pieces_from i (node ∷ rest) = record { index = i; node = node } ∷ pieces_from (suc i) rest

abbrev pub addr_of : Option Node → ℕ
addr_of None = 0
addr_of (Some node) = node.addr

abbrev pub port_of : Option Node → ℕ
port_of None = 0
port_of (Some node) = node.port

-- where a piece is found, where these are the nodes
abbrev pub place_at : List Node → At → Place
place_at nodes piece = record {
  index = piece.index;
  node = piece.node;
  addr = addr_of (node_at nodes piece.node);
  port = port_of (node_at nodes piece.node);
}

abbrev pub places_of : List Node → List At → List Place
places_of nodes pieces = map (place_at nodes) pieces

-- the subnets of the nodes that pieces lie on
abbrev pub subnets_of : List Node → List At → List ℕ
subnets_of nodes pieces = map (λ piece. subnet_at (addr_of (node_at nodes piece.node))) pieces
