-- Chains of nodes, by their subnets.
use Rattle.std.specs.Prelude.{◌≡◌, ℕ, zero, suc, ◌%◌, ◌<◌, ◌==◌, if◌then◌else◌, Bool, ◌&&◌, not, List, [], ◌∷◌, length, map, slice_index}
use Rattle.placement.specs.declared.chains.Link.{Link}

-- the subnets of nodes, by the nodes' places, and for how many more nodes there is room
pub record Chained : Type 0 where
  pub subnets : List ℕ
  pub spare : ℕ

-- one more than the last of the first n places at which a test holds, or 0 where it holds at none
abbrev pub last_of : (ℕ → Bool) → ℕ → ℕ
last_of test zero = 0
last_of test (suc n) = if test n then suc n else last_of test n

-- whether the subnet at a place is in a bucket, of so many
abbrev pub is_in : List ℕ → ℕ → ℕ → ℕ → Bool
is_in subnets buckets bucket place = slice_index subnets place % buckets == bucket

abbrev pub subnets_of : List Link → List ℕ
subnets_of links = map (λ link. link.subnet) links

abbrev pub befores_of : List Link → List ℕ
befores_of links = map (λ link. link.before) links

-- the nodes of each bucket are a chain: one more than a place, or 0, leads to the last of them, and from each to the one before it
pub record AreChained (links : List Link) (last : List ℕ) : Type 0 where
  pub some : 0 < length last
  pub ends : (bucket : ℕ) → bucket < length last → slice_index last bucket ≡ last_of (is_in (subnets_of links) (length last) bucket) (length links)
  pub steps : (place : ℕ) → place < length links → slice_index (befores_of links) place ≡ last_of (is_in (subnets_of links) (length last) (slice_index (subnets_of links) place % length last)) place

-- the flags without those of the nodes in a subnet, where the nodes are in these subnets
abbrev pub struck : List ℕ → ℕ → List Bool → List Bool
struck (one ∷ subnets) subnet (flag ∷ flags) = (flag && not (one == subnet)) ∷ struck subnets subnet flags
struck [] subnet flags = []
struck (one ∷ subnets) subnet [] = []
