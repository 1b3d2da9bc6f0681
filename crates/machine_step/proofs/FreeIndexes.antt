-- The indexes that no source has, and their pairs with nodes.
use Rattle.std.proofs.Common.{◌≡◌, ℕ, zero, suc, ◌+◌, ◌<◌, ◌≤◌, Bool, true, false, not, List, [], ◌∷◌, length, Option, is_some, refl, sym, ap, subst, ◌∙◌, arith}
use Rattle.std.specs.Prelude.{if◌then◌else◌, nat_lt, ◌==◌, map, filter}
use Rattle.std.specs.List.{list_all, range_with_len}
use Rattle.std.proofs.lemmas.Bool.Decides.{nat_tests}
use Rattle.std.proofs.lemmas.Bool.{and_parts, and_from}
use Rattle.sat_base.specs.declared.ids.NodeId.{NodeId}
use Rattle.sat_base.specs.declared.records.At.{At}
use Rattle.rows.specs.Rows.{AllAbove, IsRising}
use Rattle.node_registry.specs.declared.node.Node.{Node}
use Rattle.node_registry.specs.Registry.{node_at}
use Rattle.segment_core.specs.Places.{index_of}
use Rattle.placement.specs.Eligible.{subnet_of}
use Rattle.placement.specs.Placed.{id_of}
use Rattle.machine_step.specs.Places.{subnets_of, addr_of}
use Rattle.machine_step.specs.Calls.PlanRepair.{has_index, paired}
use Rattle.machine_step.specs.Rules.{is_known, are_known}
use Rattle.machine_step.proofs.PickLemmas.{AreFound}
use Rattle.node_registry.specs.Subnet.{subnet_at}

range-above : (i n m : ℕ) → m < i → AllAbove (λ (k : ℕ). k) m (range_with_len i n)
range-above i zero m lt = tt
range-above i (suc n) m lt = (lt, range-above (i + 1) n m (omega arith))

pub range-rising : (i n : ℕ) → IsRising (λ (k : ℕ). k) (range_with_len i n)
range-rising i zero = tt
range-rising i (suc n) = (range-above (i + 1) n i (omega arith), range-rising (i + 1) n)

pub range-below : (i n most : ℕ) → i + n ≤ most → list_all (λ k. nat_lt k most) (range_with_len i n) ≡ true
range-below i zero most le = refl
range-below i (suc n) most le = let rest = range-below (i + 1) n most (omega arith) in grind (arith, nat_tests, le, rest)

all-above : (k : ℕ) (xs : List ℕ) → AllAbove (λ (x : ℕ). x) k xs → filter (λ x. not (k == x)) xs ≡ xs
all-above k [] above = refl
all-above k (x ∷ xs) above = let lt = above.0 in grind (arith, nat_tests, lt, all-above k xs above.1)

one-less : (k : ℕ) (xs : List ℕ) → IsRising (λ (x : ℕ). x) xs → length xs ≤ length (filter (λ x. not (k == x)) xs) + 1
one-less k [] rising = omega arith
one-less k (x ∷ xs) rising =
    let rest : k ≡ x → length (filter (λ y. not (k == y)) xs) ≡ length xs = λ e. ap length (all-above k xs (subst (λ (n : ℕ). AllAbove (λ (y : ℕ). y) n xs) (sym e) rising.0)) in
    grind (arith, nat_tests, rest, one-less k xs rising.1)

above-kept : (test : ℕ → Bool) (n : ℕ) (xs : List ℕ) → AllAbove (λ (x : ℕ). x) n xs → AllAbove (λ (x : ℕ). x) n (filter test xs)
above-kept test n [] above = tt
above-kept test n (x ∷ xs) above = go (test x) (above-kept test n xs above.1)
  where
    go : (b : Bool) → AllAbove (λ (y : ℕ). y) n (filter test xs) → AllAbove (λ (y : ℕ). y) n (if b then x ∷ filter test xs else filter test xs)
    go true rest = (above.0, rest)
    go false rest = rest

pub rising-kept : (test : ℕ → Bool) (xs : List ℕ) → IsRising (λ (x : ℕ). x) xs → IsRising (λ (x : ℕ). x) (filter test xs)
rising-kept test [] rising = tt
rising-kept test (x ∷ xs) rising = go (test x) (rising-kept test xs rising.1)
  where
    go : (b : Bool) → IsRising (λ (y : ℕ). y) (filter test xs) → IsRising (λ (y : ℕ). y) (if b then x ∷ filter test xs else filter test xs)
    go true rest = (above-kept test x xs rising.0, rest)
    go false rest = rest

split-free : (s : At) (ss : List At) (xs : List ℕ) → filter (λ i. not (has_index (s ∷ ss) i)) xs ≡ filter (λ i. not (s.index == i)) (filter (λ i. not (has_index ss i)) xs)
split-free s ss [] = refl
split-free s ss (x ∷ xs) = grind (arith, nat_tests, split-free s ss xs)

all-free : (xs : List ℕ) → filter (λ i. not (has_index [] i)) xs ≡ xs
all-free [] = refl
all-free (x ∷ xs) = ap (λ (ys : List ℕ). x ∷ ys) (all-free xs)

pub free-count : (sources : List At) (xs : List ℕ) → IsRising (λ (x : ℕ). x) xs → length xs ≤ length (filter (λ i. not (has_index sources i)) xs) + length sources
free-count [] xs rising = let same = ap length (all-free xs) in omega (arith, same)
free-count (s ∷ ss) xs rising =
    let kept = filter (λ i. not (has_index ss i)) xs in
    let less : length kept ≤ length (filter (λ i. not (s.index == i)) kept) + 1 = one-less s.index kept (rising-kept (λ i. not (has_index ss i)) xs rising) in
    let same : length (filter (λ i. not (has_index (s ∷ ss) i)) xs) ≡ length (filter (λ i. not (s.index == i)) kept) = ap length (split-free s ss xs) in
    omega (arith, less, same, free-count ss xs rising)

-- ---- pairs of indexes and nodes

pub length-paired : (indexes : List ℕ) (ids : List NodeId) → length ids ≤ length indexes → length (paired indexes ids) ≡ length ids
length-paired [] [] le = refl
length-paired [] (id ∷ ids) le = absurd (omega arith)
length-paired (i ∷ indexes) [] le = refl
length-paired (i ∷ indexes) (id ∷ ids) le = ap suc (length-paired indexes ids (omega arith))

above-paired : (n : ℕ) (indexes : List ℕ) (ids : List NodeId) → AllAbove (λ (x : ℕ). x) n indexes → AllAbove index_of n (paired indexes ids)
above-paired n [] ids above = tt
above-paired n (i ∷ indexes) [] above = tt
above-paired n (i ∷ indexes) (id ∷ ids) above = (above.0, above-paired n indexes ids above.1)

pub rising-paired : (indexes : List ℕ) (ids : List NodeId) → IsRising (λ (x : ℕ). x) indexes → IsRising index_of (paired indexes ids)
rising-paired [] ids rising = tt
rising-paired (i ∷ indexes) [] rising = tt
rising-paired (i ∷ indexes) (id ∷ ids) rising = (above-paired i indexes ids rising.0, rising-paired indexes ids rising.1)

pub all-paired : (test : ℕ → Bool) (indexes : List ℕ) (ids : List NodeId) → list_all test indexes ≡ true → list_all (λ (place : At). test place.index) (paired indexes ids) ≡ true
all-paired test [] ids all = refl
all-paired test (i ∷ indexes) [] all = refl
all-paired test (i ∷ indexes) (id ∷ ids) all =
    let parts = and_parts (test i) (list_all test indexes) all in
    and_from _ _ parts.0 (all-paired test indexes ids parts.1)

pub known-paired : (nodes : List Node) (indexes : List ℕ) (picks : List Node) → AreFound nodes picks → are_known nodes (paired indexes (map id_of picks)) ≡ true
known-paired nodes [] picks found = refl
known-paired nodes (i ∷ indexes) [] found = refl
known-paired nodes (i ∷ indexes) (node ∷ picks) found =
    let here : is_known nodes node.id ≡ true = ap is_some found.0 in
    and_from _ _ here (known-paired nodes indexes picks found.1)

pub subnets-paired : (nodes : List Node) (indexes : List ℕ) (picks : List Node) → AreFound nodes picks → length picks ≤ length indexes → subnets_of nodes (paired indexes (map id_of picks)) ≡ map subnet_of picks
subnets-paired nodes [] [] found le = refl
subnets-paired nodes [] (node ∷ picks) found le = absurd (omega arith)
subnets-paired nodes (i ∷ indexes) [] found le = refl
subnets-paired nodes (i ∷ indexes) (node ∷ picks) found le =
    let here : subnet_at (addr_of (node_at nodes node.id)) ≡ subnet_of node = ap (λ (at : Option Node). subnet_at (addr_of at)) found.0 in
    let rest = subnets-paired nodes indexes picks found.1 (omega arith) in
    ap (λ (x : ℕ). x ∷ subnets_of nodes (paired indexes (map id_of picks))) here ∙ ap (λ (xs : List ℕ). subnet_of node ∷ xs) rest
