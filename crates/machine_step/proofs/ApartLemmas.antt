-- Pieces in subnets apart, and what putting a piece among them keeps.
use Rattle.std.proofs.Common.{◌≡◌, ℕ, ◌<◌, Bool, true, false, List, [], ◌∷◌, refl, ap, arith}
use Rattle.std.specs.Prelude.{nat_lt, ◌==◌, filter}
use Rattle.std.specs.List.{list_any}
use Rattle.std.proofs.lemmas.Bool.Decides.{nat_tests}
use Rattle.std.proofs.lemmas.Bool.{and_parts, and_from}
use Rattle.sat_base.specs.declared.records.At.{At}
use Rattle.rows.specs.Rows.{AllAbove, IsRising}
use Rattle.node_registry.specs.declared.node.Node.{Node}
use Rattle.node_registry.specs.Registry.{node_at}
use Rattle.segment_core.specs.Places.{index_of}
use Rattle.machine_step.specs.Containment.{has_piece}
use Rattle.machine_step.specs.Health.{are_among}
use Rattle.machine_step.specs.Places.{addr_of, subnets_of}
use Rattle.machine_step.specs.Rules.{are_apart, are_below}
use Rattle.machine_step.specs.Mending.{with_piece}
use Rattle.node_registry.specs.Subnet.{subnet_at}

module _ (nodes : List Node) where
  abbrev pub subnet : At → ℕ
  subnet piece = subnet_at (addr_of (node_at nodes piece.node))

  -- no piece lies in the subnet
  abbrev pub IsOff : ℕ → List At → Type 0
  IsOff s pieces = list_any (λ other. s == other) (subnets_of nodes pieces) ≡ false

  pub off-with_piece : (s : ℕ) (pieces : List At) (piece : At) → IsOff s pieces → (s == subnet piece) ≡ false → IsOff s (with_piece pieces piece)
  off-with_piece s [] piece off other = grind (arith, other)
  off-with_piece s (x ∷ xs) piece off other = grind (arith, nat_tests, off, other, off-with_piece s xs piece)

  pub apart-with_piece : (pieces : List At) (piece : At) → are_apart (subnets_of nodes pieces) ≡ true → IsOff (subnet piece) pieces → are_apart (subnets_of nodes (with_piece pieces piece)) ≡ true
  apart-with_piece [] piece apart off = refl
  apart-with_piece (x ∷ xs) piece apart off =
      let rest : are_apart (subnets_of nodes xs) ≡ true = grind (arith, nat_tests, apart) in
      let head : IsOff (subnet x) xs = grind (arith, nat_tests, apart) in
      let off' : IsOff (subnet piece) xs = grind (arith, nat_tests, off) in
      let differ : (subnet x == subnet piece) ≡ false = grind (arith, nat_tests, off) in
      grind (arith, nat_tests, apart, off, head, off', off-with_piece (subnet x) xs piece head differ, apart-with_piece xs piece rest off')

  -- two pieces of different indexes lie in different subnets
  off-place : (s : ℕ) (pieces : List At) (place : At) → IsOff s pieces → has_piece pieces place ≡ true → (s == subnet place) ≡ false
  off-place s [] place off has = cc
  off-place s (x ∷ xs) place off has =
      let same : x.node.0 ≡ place.node.0 → subnet x ≡ subnet place = λ e. ap (λ (k : ℕ). subnet_at (addr_of (node_at nodes (record { 0 = k })))) e in
      grind (arith, nat_tests, off, has, same, off-place s xs place)

  pub differ-places : (pieces : List At) (one other : At) → are_apart (subnets_of nodes pieces) ≡ true → has_piece pieces one ≡ true → has_piece pieces other ≡ true → one.index < other.index → (subnet one == subnet other) ≡ false
  differ-places [] one other apart has has' lt = cc
  differ-places (x ∷ xs) one other apart has has' lt =
      let head : IsOff (subnet x) xs = grind (arith, nat_tests, apart) in
      let rest : are_apart (subnets_of nodes xs) ≡ true = grind (arith, nat_tests, apart) in
      let same : (place : At) → x.node.0 ≡ place.node.0 → subnet x ≡ subnet place = λ place e. ap (λ (k : ℕ). subnet_at (addr_of (node_at nodes (record { 0 = k })))) e in
      let first : has_piece xs other ≡ true → (subnet x == subnet other) ≡ false = off-place (subnet x) xs other head in
      let second : has_piece xs one ≡ true → (subnet x == subnet one) ≡ false = off-place (subnet x) xs one head in
      grind (arith, nat_tests, has, has', lt, same one, same other, first, second, differ-places xs one other rest)

  off-among : (pieces : List At) (one : At) (places : List At) → are_apart (subnets_of nodes pieces) ≡ true → has_piece pieces one ≡ true → are_among pieces places ≡ true → AllAbove index_of one.index places → IsOff (subnet one) places
  off-among pieces one [] apart has among above = refl
  off-among pieces one (place ∷ places) apart has among above =
      let parts = and_parts (has_piece pieces place) (are_among pieces places) among in
      let differ = differ-places pieces one place apart has parts.0 above.0 in
      grind (arith, nat_tests, differ, off-among pieces one places apart has parts.1 above.1)

  -- pieces of rising indexes that are among others are as apart as these
  pub apart-among : (pieces places : List At) → are_apart (subnets_of nodes pieces) ≡ true → are_among pieces places ≡ true → IsRising index_of places → are_apart (subnets_of nodes places) ≡ true
  apart-among pieces [] apart among rising = refl
  apart-among pieces (place ∷ places) apart among rising =
      let parts = and_parts (has_piece pieces place) (are_among pieces places) among in
      let off = off-among pieces place places apart parts.0 parts.1 rising.0 in
      grind (arith, nat_tests, off, apart-among pieces places apart parts.1 rising.1)

  pub off-filtered : (s : ℕ) (test : At → Bool) (pieces : List At) → IsOff s pieces → IsOff s (filter test pieces)
  off-filtered s test [] off = refl
  off-filtered s test (x ∷ xs) off = grind (arith, nat_tests, off, off-filtered s test xs)

-- what is among pieces below n is below n
pub below-place : (n : ℕ) (pieces : List At) (place : At) → are_below n pieces ≡ true → has_piece pieces place ≡ true → nat_lt place.index n ≡ true
below-place n [] place below has = cc
below-place n (x ∷ xs) place below has = grind (arith, nat_tests, below, has, below-place n xs place)

pub below-among : (n : ℕ) (pieces places : List At) → are_below n pieces ≡ true → are_among pieces places ≡ true → are_below n places ≡ true
below-among n pieces [] below among = refl
below-among n pieces (place ∷ places) below among =
    let parts = and_parts (has_piece pieces place) (are_among pieces places) among in
    and_from _ _ (below-place n pieces place below parts.0) (below-among n pieces places below parts.1)
