-- Chains lead to every node of a subnet, and what is left of the flags on the way.
use Rattle.std.proofs.Common.{◌++◌, set, ◌≡◌, ◌≢◌, ℕ, zero, suc, ◌+◌, ◌%◌, ◌<◌, ◌≤◌, Bool, true, false, List, [], ◌∷◌, length, get_or, refl, sym, ap, cond, ◌∙◌, inl, inr, arith, length-set, add-one, get_or-set_same, get_or-set_other}
use Rattle.std.specs.Prelude.{◌==◌, ◌&&◌, ◌||◌, not, if◌then◌else◌, nat_le, slice_index, slice_set}
use Rattle.std.proofs.lemmas.Bool.{cases_eq, cases_lt, eqb-true, eq-eqb, le-leb, ne_eqb}
use Rattle.std.proofs.lemmas.Bool.Decides.{nat_tests}
use Rattle.std.proofs.lemmas.List.{ext_get_or, get_or_past, get_or_read, get_or_push, get_or_append_left, get_or-map, length-map, length_push, map_push}
use Rattle.placement.specs.declared.chains.Link.{Link}
use Rattle.placement.specs.Chains.{last_of, is_in, subnets_of, befores_of, AreChained, struck}

-- ---- the last of some places

pub last_of-le : (test : ℕ → Bool) (n : ℕ) → last_of test n ≤ n
last_of-le test zero = omega arith
last_of-le test (suc n) = go (test n) (last_of-le test n)
  where
    go : (b : Bool) → last_of test n ≤ n → cond b (suc n) (last_of test n) ≤ suc n
    go true le = omega arith
    go false le = omega arith

last_of-here : (test : ℕ → Bool) (n at : ℕ) → last_of test n ≡ suc at → test at ≡ true
last_of-here test zero at is = cc
last_of-here test (suc n) at is = go (test n) refl is (last_of-here test n at)
  where
    go : (b : Bool) → test n ≡ b → cond b (suc n) (last_of test n) ≡ suc at → (last_of test n ≡ suc at → test at ≡ true) → test at ≡ true
    go true was is rest = let same : n ≡ at = omega arith in rw (← same) was
    go false was is rest = rest is

last_of-none : (test : ℕ → Bool) (n at : ℕ) → last_of test n ≤ at → at < n → test at ≡ false
last_of-none test zero at le lt = absurd (omega arith)
last_of-none test (suc n) at le lt = go (test n) refl le (last_of-none test n at)
  where
    go : (b : Bool) → test n ≡ b → cond b (suc n) (last_of test n) ≤ at → (last_of test n ≤ at → at < n → test at ≡ false) → test at ≡ false
    go true was le rest = absurd (omega arith)
    go false was le rest = elim (cases_eq at n) [
      | inl same ↦ rw same was
      | inr other ↦ rest le (omega arith)
    ]

-- ---- flags on the way

-- the flags of the nodes in a subnet, from a place on, are set down
pub record IsStruckFrom (subnets : List ℕ) (subnet from : ℕ) (old new : List Bool) : Type 0 where
  pub long : length new ≡ length old
  pub each : (at : ℕ) → get_or new at false ≡ (get_or old at false && not (nat_le from at && (slice_index subnets at == subnet)))

and-not : (a b : Bool) → b ≡ false → (a && not b) ≡ a
and-not true b is = rw is refl
and-not false b is = refl

pub none-struck : (subnets : List ℕ) (subnet : ℕ) (flags : List Bool) → length flags ≡ length subnets → IsStruckFrom subnets subnet (length subnets) flags flags
none-struck subnets subnet flags long = record {
  long = refl;
  each = λ at. elim (cases_lt at (length subnets)) [
    | inl within ↦ sym (and-not (get_or flags at false) _ (grind (arith, nat_tests)))
    | inr past ↦ rw (get_or_past flags at false (omega arith)) refl
  ];
}

-- a node in the subnet is in its bucket
in-bucket : (subnets : List ℕ) (buckets subnet at : ℕ) → is_in subnets buckets (subnet % buckets) at ≡ false → (slice_index subnets at == subnet) ≡ false
in-bucket subnets buckets subnet at none = go (slice_index subnets at == subnet) refl
  where
    go : (b : Bool) → (slice_index subnets at == subnet) ≡ b → b ≡ false
    go false was = refl
    go true was = let same : slice_index subnets at ≡ subnet = eqb-true (slice_index subnets at) subnet was in cc (none, eq-eqb (slice_index subnets at % buckets) (subnet % buckets) (ap (λ one. one % buckets) same))

-- between a place and the last node before it in the bucket there is none
skipped-at : (subnets : List ℕ) (buckets subnet n at : ℕ) → (nat_le n at && (slice_index subnets at == subnet)) ≡ (nat_le (last_of (is_in subnets buckets (subnet % buckets)) n) at && (slice_index subnets at == subnet))
skipped-at subnets buckets subnet n at =
    let test = is_in subnets buckets (subnet % buckets) in
    let le = last_of-le test n in
    elim (cases_lt at n) [
      | inr past ↦ grind (arith, nat_tests)
      | inl within ↦ elim (cases_lt at (last_of test n)) [
        | inl before ↦ grind (arith, nat_tests)
        | inr after ↦ let none = in-bucket subnets buckets subnet at (last_of-none test n at after within) in grind (arith, nat_tests, none)
      ]
    ]

pub skipped : (subnets : List ℕ) (buckets subnet n : ℕ) (old new : List Bool) → IsStruckFrom subnets subnet n old new → IsStruckFrom subnets subnet (last_of (is_in subnets buckets (subnet % buckets)) n) old new
skipped subnets buckets subnet n old new is = record {
  long = is.long;
  each = λ at. is.each at ∙ ap (λ (b : Bool). get_or old at false && not b) (skipped-at subnets buckets subnet n at);
}

get_or-clear : (flags : List Bool) (at p : ℕ) → get_or (slice_set flags at false) p false ≡ (get_or flags p false && not (at == p))
get_or-clear [] at p = refl
get_or-clear (true ∷ flags) zero zero = refl
get_or-clear (false ∷ flags) zero zero = refl
get_or-clear (flag ∷ flags) zero (suc p) = grind (arith, nat_tests)
get_or-clear (flag ∷ flags) (suc at) zero = grind (arith, nat_tests)
get_or-clear (flag ∷ flags) (suc at) (suc p) = grind (arith, nat_tests, get_or-clear flags at p)

neither : (a b c d : Bool) → b ≡ (c || d) → ((a && not c) && not d) ≡ (a && not b)
neither true b true d is = rw is refl
neither true b false d is = rw is refl
neither false b c d is = refl

-- the node at a place is in the subnet, and its flag is set down
pub cleared : (subnets : List ℕ) (subnet n at : ℕ) (old new : List Bool) → IsStruckFrom subnets subnet n old new → n ≡ at + 1 → slice_index subnets at ≡ subnet → IsStruckFrom subnets subnet at old (slice_set new at false)
cleared subnets subnet n at old new is next same = record {
  long = length-set new at false ∙ is.long;
  each = λ p. get_or-clear new at p ∙ rw (is.each p) (neither (get_or old p false) _ _ (at == p) (test p));
}
  where
    test : (p : ℕ) → (nat_le at p && (slice_index subnets p == subnet)) ≡ ((nat_le n p && (slice_index subnets p == subnet)) || (at == p))
    test p = elim (cases_eq at p) [
      | inl here ↦ rw (← here, same) (grind (arith, nat_tests))
      | inr other ↦ grind (arith, nat_tests)
    ]

-- the node at a place is in another subnet
pub passed : (subnets : List ℕ) (subnet n at : ℕ) (old new : List Bool) → IsStruckFrom subnets subnet n old new → n ≡ at + 1 → slice_index subnets at ≢ subnet → IsStruckFrom subnets subnet at old new
passed subnets subnet n at old new is next other = record {
  long = is.long;
  each = λ p. is.each p ∙ ap (λ (b : Bool). get_or old p false && not b) (test p);
}
  where
    test : (p : ℕ) → (nat_le n p && (slice_index subnets p == subnet)) ≡ (nat_le at p && (slice_index subnets p == subnet))
    test p = elim (cases_eq at p) [
      | inl here ↦ rw (← here) (grind (arith, nat_tests))
      | inr later ↦ grind (arith, nat_tests)
    ]

get_or-struck : (subnets : List ℕ) (subnet : ℕ) (flags : List Bool) (at : ℕ) → length flags ≡ length subnets → get_or (struck subnets subnet flags) at false ≡ (get_or flags at false && not (slice_index subnets at == subnet))
get_or-struck [] subnet [] at long = refl
get_or-struck (one ∷ subnets) subnet [] at long = cc
get_or-struck [] subnet (flag ∷ flags) at long = cc
get_or-struck (one ∷ subnets) subnet (flag ∷ flags) zero long = refl
get_or-struck (one ∷ subnets) subnet (flag ∷ flags) (suc at) long = get_or-struck subnets subnet flags at (omega arith)

length-struck : (subnets : List ℕ) (subnet : ℕ) (flags : List Bool) → length flags ≡ length subnets → length (struck subnets subnet flags) ≡ length flags
length-struck [] subnet [] long = refl
length-struck (one ∷ subnets) subnet [] long = refl
length-struck [] subnet (flag ∷ flags) long = cc
length-struck (one ∷ subnets) subnet (flag ∷ flags) long = ap suc (length-struck subnets subnet flags (omega arith))

pub all-struck : (subnets : List ℕ) (subnet : ℕ) (old new : List Bool) → length old ≡ length subnets → IsStruckFrom subnets subnet 0 old new → new ≡ struck subnets subnet old
all-struck subnets subnet old new long is =
    ext_get_or false new (struck subnets subnet old) (is.long ∙ sym (length-struck subnets subnet old long))
    (λ at lt. is.each at ∙ rw le_from_zero (sym (get_or-struck subnets subnet old at long)))
  where
    le_from_zero : (at : ℕ) → nat_le 0 at ≡ true
    le_from_zero at = le-leb 0 at (omega arith)

-- ---- a walk

-- one more than the place of the next node of a walk over a subnet's bucket, or 0 at its end
pub record IsNext (subnets : List ℕ) (buckets subnet next : ℕ) : Type 0 where
  pub within : next ≤ length subnets
  pub here : (at : ℕ) → next ≡ at + 1 → slice_index subnets at % buckets ≡ subnet % buckets

pub last-next : (subnets : List ℕ) (buckets subnet n next : ℕ) → n ≤ length subnets → next ≡ last_of (is_in subnets buckets (subnet % buckets)) n → IsNext subnets buckets subnet next
last-next subnets buckets subnet n next le is =
    let test = is_in subnets buckets (subnet % buckets) in
    let below = last_of-le test n in
    record {
      within = omega arith;
      here = λ at same. let one : last_of test n ≡ suc at = omega arith in eqb-true (slice_index subnets at % buckets) (subnet % buckets) (last_of-here test n at one);
    }

-- what is read at a walk's first step
pub first-read : (links : List Link) (subnets last : List ℕ) (buckets subnet first : ℕ) → AreChained links last → subnets_of links ≡ subnets → buckets ≡ length last → first ≡ get_or last (subnet % buckets) first → first ≡ last_of (is_in subnets buckets (subnet % buckets)) (length subnets)
first-read links subnets last buckets subnet first are same is read =
    let some = are.some in
    let within : subnet % buckets < length last = omega arith in
    let whole : subnet % length last < length last = omega arith in
    get_or_read last (subnet % buckets) first within read 0
    ∙ rw (← same, length-map links (λ (link : Link). link.subnet), is) (are.ends (subnet % length last) whole)

-- what is read at a node of a walk: its subnet, and the next node
pub record IsRead (subnets : List ℕ) (buckets subnet at : ℕ) (link : Link) : Type 0 where
  pub subnet_is : slice_index subnets at ≡ link.subnet
  pub next_is : link.before ≡ last_of (is_in subnets buckets (subnet % buckets)) at
  pub falls : link.before ≤ at
  pub goes_on : IsNext subnets buckets subnet link.before

pub node-read : (links : List Link) (subnets last : List ℕ) (buckets subnet n at : ℕ) (link : Link) → AreChained links last → subnets_of links ≡ subnets → buckets ≡ length last → IsNext subnets buckets subnet n → n ≡ at + 1 → link ≡ get_or links at link → IsRead subnets buckets subnet at link
node-read links subnets last buckets subnet n at link are same is next above read =
    let inside = next.within in
    let lt : at < length links = omega (arith, ap length same, length-map links (λ (link : Link). link.subnet)) in
    let next_is : link.before ≡ last_of (is_in subnets buckets (subnet % buckets)) at =
    ap (λ (link : Link). link.before) read ∙ sym (get_or-map (λ (link : Link). link.before) links at link 0 lt) ∙ are.steps at lt
    ∙ ap (λ (subnets : List ℕ). last_of (is_in subnets (length last) (slice_index subnets at % length last)) at) same
    ∙ ap (λ n. last_of (is_in subnets n (slice_index subnets at % n)) at) (sym is)
    ∙ ap (λ bucket. last_of (is_in subnets buckets bucket) at) (next.here at above) in
    record {
      subnet_is = rw (← same) (get_or-map (λ (link : Link). link.subnet) links at link 0 lt ∙ ap (λ (link : Link). link.subnet) (sym read));
      next_is = next_is;
      falls = let le = last_of-le (is_in subnets buckets (subnet % buckets)) at in omega arith;
      goes_on = last-next subnets buckets subnet at link.before (omega arith) next_is;
    }

-- ---- one more node

last_of-same : (test other : ℕ → Bool) (n : ℕ) → ((k : ℕ) → k < n → test k ≡ other k) → last_of test n ≡ last_of other n
last_of-same test other zero same = refl
last_of-same test other (suc n) same = rw (same n (omega arith), last_of-same test other n (λ k lt. same k (omega arith))) refl

same-in : (subnets : List ℕ) (subnet buckets bucket n : ℕ) → n ≤ length subnets → last_of (is_in (subnets ++ subnet ∷ []) buckets bucket) n ≡ last_of (is_in subnets buckets bucket) n
same-in subnets subnet buckets bucket n le = last_of-same (is_in (subnets ++ subnet ∷ []) buckets bucket) (is_in subnets buckets bucket) n
    (λ k lt. ap (λ one. one % buckets == bucket) (get_or_append_left subnets (subnet ∷ []) 0 k (omega arith)))

more-last : (subnets : List ℕ) (subnet buckets bucket n : ℕ) → length subnets ≡ n → last_of (is_in (subnets ++ subnet ∷ []) buckets bucket) (n + 1) ≡ (if subnet % buckets == bucket then n + 1 else last_of (is_in subnets buckets bucket) n)
more-last subnets subnet buckets bucket n long =
    rw (add-one, get_or_push subnets subnet 0 n long, same-in subnets subnet buckets bucket n (omega arith)) refl

index_set : (xs : List ℕ) (i v b : ℕ) → i < length xs → slice_index (set xs i v) b ≡ (if i == b then v else slice_index xs b)
index_set xs i v b lt = elim (cases_eq b i) [
  | inl same ↦ rw (same, get_or-set_same xs i v 0 lt, eq-eqb i i refl) refl
  | inr other ↦ rw (get_or-set_other xs i b v 0 other, ne_eqb i b (λ e. other (sym e))) refl
]

pub more-chained : (links : List Link) (last : List ℕ) (link : Link) (bucket n : ℕ) → AreChained links last → bucket ≡ link.subnet % length last → link.before ≡ get_or last bucket link.before → n ≡ length links + 1 → AreChained (links ++ link ∷ []) (set last bucket n)
more-chained links last link bucket n are is read n_is = record {
  some = rw length-set are.some;
  ends = λ b within. rw (length-set last bucket n, length_push links link, n_is, index_set last bucket (length links + 1) b (lt are.some), map_push (λ (link : Link). link.subnet) links link, more-last (subnets_of links) link.subnet (length last) b (length links) (length-map links (λ (link : Link). link.subnet)), ← is, are.ends b (rw length-set at within)) refl;
  steps = λ place within. rw (length-set last bucket n, map_push (λ (link : Link). link.subnet) links link, map_push (λ (link : Link). link.before) links link) (steps place (rw length_push at within));
}
  where
    lt : 0 < length last → bucket < length last
    lt some = omega arith

    steps : (place : ℕ) → place < length links + 1 → slice_index (befores_of links ++ link.before ∷ []) place ≡ last_of (is_in (subnets_of links ++ link.subnet ∷ []) (length last) (slice_index (subnets_of links ++ link.subnet ∷ []) place % length last)) place
    steps place within =
        let subnets_long : length (subnets_of links) ≡ length links = length-map links (λ (link : Link). link.subnet) in
        let befores_long : length (befores_of links) ≡ length links = length-map links (λ (link : Link). link.before) in
        elim (cases_lt place (length links)) [
          | inl earlier ↦ rw (get_or_append_left (befores_of links) (link.before ∷ []) 0 place (omega arith), get_or_append_left (subnets_of links) (link.subnet ∷ []) 0 place (omega arith), same-in (subnets_of links) link.subnet (length last) (slice_index (subnets_of links) place % length last) place (omega arith)) (are.steps place earlier)
          | inr past ↦
              let here : place ≡ length links = omega arith in
              rw (here, get_or_push (befores_of links) link.before 0 (length links) befores_long, get_or_push (subnets_of links) link.subnet 0 (length links) subnets_long, ← is, same-in (subnets_of links) link.subnet (length last) bucket (length links) (omega arith))
              (get_or_read last bucket link.before (lt are.some) read 0 ∙ are.ends bucket (lt are.some))
        ]
