-- A placement in the making.
use Rattle.std.specs.Prelude.{◌≡◌, ℕ, Bool, ◌&&◌, List, [], ◌∷◌, ◌++◌, map, Some}
use Rattle.node_registry.specs.declared.node.Node.{Node}
use Rattle.placement.specs.declared.request.Request.{Request}
use Rattle.placement.specs.declared.request.Class.{Class}
use Rattle.placement.specs.declared.request.Class.TheVariants.{Vetted, Unvetted}
use Rattle.placement.specs.declared.draft.Draft.{Draft}
use Rattle.placement.specs.Eligible.{Terms, terms, is_of, is_eligible, subnet_of, used, next_pick}

abbrev pub terms_of : Request → Terms
terms_of request = terms request.table.now.nodes request.vet request.taken.now request.piece_len request.words.now

-- which of the nodes of a class are eligible where these subnets are used, a flag for each node
abbrev pub flags_of : Terms → Class → List ℕ → List Bool
flags_of terms class subnets = map (λ node. is_of class terms.vet node && is_eligible terms subnets node) terms.nodes

abbrev pub flags_in : Class → Draft → List Bool
flags_in Vetted draft = draft.vetted
flags_in Unvetted draft = draft.unvetted

-- the draft has the subnet of each node, and a flag for each that is eligible where these subnets are used
pub record IsDraftAt (terms : Terms) (subnets : List ℕ) (draft : Draft) : Type 0 where
  pub chains : draft.chains.subnets ≡ map subnet_of terms.nodes
  pub vetted : draft.vetted ≡ flags_of terms Vetted subnets
  pub unvetted : draft.unvetted ≡ flags_of terms Unvetted subnets

-- the subnets that the draft's picks leave
abbrev pub IsDraft : Terms → Draft → Type 0
IsDraft terms draft = IsDraftAt terms (used terms draft.picks.items) draft

-- one pick more, the next one of its class
pub record AddsPick (terms : Terms) (class : Class) (old new : List Node) : Type 0 where
  pub node : Node
  pub is : new ≡ old ++ node ∷ []
  pub next : next_pick terms class old ≡ Some node
