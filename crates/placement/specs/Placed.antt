-- The picks of a placement.
use Rattle.std.specs.Prelude.{◌≡◌, ℕ, ◌+◌, ◌-◌, ◌<◌, ◌≤◌, List, [], ◌∷◌, ◌++◌, length, map, nat_eq, Some, All, Contains}
use Rattle.std.specs.List.{IsDistinct}
use Rattle.sat_base.specs.declared.ids.NodeId.{NodeId}
use Rattle.node_registry.specs.declared.node.Node.{Node}
use Rattle.placement.specs.declared.request.Class.{Class}
use Rattle.placement.specs.declared.request.Class.TheVariants.{Vetted, Unvetted}
use Rattle.placement.specs.Eligible.{Terms, eligible, eligible_of, next_pick, subnet_of}

-- from some picks to these and more, each of these more the next pick of one class
pub data IsDrawn (terms : Terms) (class : Class) (before : List Node) : List Node → Type 0 where
  nothing : IsDrawn terms class before before
  one_more : {picks : List Node} {node : Node} → IsDrawn terms class before picks → next_pick terms class picks ≡ Some node → IsDrawn terms class before (picks ++ node ∷ [])

-- a phase: picks of one class, a quota of them, or fewer where the class has no eligible node left
pub record IsPhase (terms : Terms) (class : Class) (quota : ℕ) (before after : List Node) : Type 0 where
  pub drawn : IsDrawn terms class before after
  pub within : length after ≤ length before + quota
  pub ended : length after < length before + quota → eligible_of terms class after ≡ []

-- the four phases: need - fresh of the vetted; fresh of the others; what is still wanted, of the vetted; what is still wanted, of the others
pub record ArePicks (terms : Terms) (need fresh : ℕ) (picks : List Node) : Type 0 where
  pub first : List Node
  pub second : List Node
  pub third : List Node
  pub vetted : IsPhase terms Vetted (need - fresh) [] first
  pub unvetted : IsPhase terms Unvetted fresh first second
  pub more_vetted : IsPhase terms Vetted (need - length second) second third
  pub more_unvetted : IsPhase terms Unvetted (need - length third) third picks

abbrev pub id_of : Node → NodeId
id_of node = node.id

-- the ids of the picks
pub record IsPlaced (terms : Terms) (need fresh : ℕ) (ids : List NodeId) : Type 0 where
  pub picks : List Node
  pub are_picks : ArePicks terms need fresh picks
  pub named : ids ≡ map id_of picks

-- what users rely on: so many nodes, each of them eligible at the start, and no two of one subnet
pub record IsSpread (terms : Terms) (need : ℕ) (ids : List NodeId) : Type 0 where
  pub picks : List Node
  pub named : ids ≡ map id_of picks
  pub number : length picks ≡ need
  pub among : All (Contains (eligible terms [])) picks
  pub apart : IsDistinct nat_eq (map subnet_of picks)
