-- What follows for picks: where each comes from, that no two are of one subnet, and how many there are.
use Rattle.std.proofs.Common.{◌≡◌, ℕ, zero, suc, ◌<◌, ◌≤◌, Bool, true, false, List, [], ◌∷◌, ◌++◌, length, get_or, map, Some, refl, sym, ap, cond, ◌∙◌, inl, inr, arith}
use Rattle.std.specs.Prelude.{◌&&◌, ◌||◌, not, All, Contains, filter, nat_eq, slice_get}
use Rattle.std.specs.Cmp.{nat_eq_equiv}
use Rattle.std.specs.List.{IsDistinct}
use Rattle.std.specs.Set.{is_member, unique_keys}
use Rattle.std.proofs.lemmas.Bool.{false≢true, cases_lt, cases_Bool, or_cases, or_left, or_right, eqb-true, eq-eqb, lt-ltb, le-leb}
use Rattle.std.proofs.lemmas.Option.{same_Some, slice_get_within, slice_get-get_or, get_or_from_slice_get}
use Rattle.std.proofs.lemmas.List.{map_push, append_assoc, get_or-map, length-map, length_push}
use Rattle.std.proofs.lemmas.List.Elements.{All-nil, All-push, All-head, All-tail, All-weaker}
use Rattle.std.proofs.lemmas.List.Folds.{list_any-append, list_any_at}
use Rattle.std.proofs.lemmas.Map.Keys.{IsDistinct-push, IsDistinct-from_apart}
use Rattle.std.proofs.lemmas.Map.Made.{length-le_from_is_member, length-from_keys}
use Rattle.node_registry.specs.declared.node.Node.{Node}
use Rattle.placement.specs.declared.request.Class.{Class}
use Rattle.placement.specs.declared.request.Class.TheVariants.{Vetted, Unvetted}
use Rattle.placement.specs.Eligible.{Terms, is_open, is_of, is_eligible, subnet_of, used, eligible, eligible_of, next_pick, subnet_count}
use Rattle.placement.specs.Placed.{IsDrawn, ArePicks, nothing, one_more}
use Rattle.sat_base.proofs.Tests.{both-ways}

-- ---- filters

-- x stands in xs
abbrev pub Got : {X : Type 0} → List X → X → Type 0
Got xs x = (k : ℕ) × (slice_get xs k ≡ Some x)

got-next : {X : Type 0} (xs : List X) (x y : X) → Got xs x → Got (y ∷ xs) x
got-next xs x y got = (suc got.0, got.1)

contains-got : {X : Type 0} (xs : List X) (x : X) → Got xs x → Contains xs x
contains-got xs x got = (got.0, slice_get_within xs got.0 x got.1, get_or_from_slice_get xs got.0 x x got.1)

pub got-kept : {X : Type 0} (test : X → Bool) (xs : List X) (x : X) (k : ℕ) → slice_get (filter test xs) k ≡ Some x → (test x ≡ true) × Got xs x
got-kept test [] x k is = cc
got-kept {X} test (y ∷ xs) x k is = go (test y) refl k is (got-kept test xs x)
  where
    next : (test x ≡ true) × Got xs x → (test x ≡ true) × Got (y ∷ xs) x
    next kept = (kept.0, got-next xs x y kept.1)

    go : (b : Bool) → test y ≡ b → (k : ℕ) → slice_get (cond b (y ∷ filter test xs) (filter test xs)) k ≡ Some x → ((k : ℕ) → slice_get (filter test xs) k ≡ Some x → (test x ≡ true) × Got xs x) → (test x ≡ true) × Got (y ∷ xs) x
    go true was zero is rest = let same : y ≡ x = same_Some y x is in (ap test (sym same) ∙ was, (0, is))
    go true was (suc k) is rest = next (rest k is)
    go false was k is rest = next (rest k is)

pub kept-got : {X : Type 0} (test : X → Bool) (xs : List X) (x : X) (k : ℕ) → slice_get xs k ≡ Some x → test x ≡ true → Got (filter test xs) x
kept-got test [] x k is passes = cc
kept-got test (y ∷ xs) x zero is passes = let same : y ≡ x = same_Some y x is in (0, rw (same, passes) refl)
kept-got {X} test (y ∷ xs) x (suc k) is passes = go (test y) (kept-got test xs x k is passes)
  where
    go : (b : Bool) → Got (filter test xs) x → Got (cond b (y ∷ filter test xs) (filter test xs)) x
    go true got = got-next (filter test xs) x y got
    go false got = got

-- a stricter test keeps nothing where another does
none-stricter : {X : Type 0} (test other : X → Bool) (xs : List X) → ((x : X) → other x ≡ true → test x ≡ true) → filter test xs ≡ [] → filter other xs ≡ []
none-stricter test other [] weaker none = refl
none-stricter {X} test other (x ∷ xs) weaker none = go (test x) (other x) (weaker x) none (none-stricter test other xs weaker)
  where
    go : (b o : Bool) → (o ≡ true → b ≡ true) → cond b (x ∷ filter test xs) (filter test xs) ≡ [] → (filter test xs ≡ [] → filter other xs ≡ []) → cond o (x ∷ filter other xs) (filter other xs) ≡ []
    go true o less none rest = cc
    go false true less none rest = absurd (false≢true (less refl))
    go false false less none rest = rest none

pub filter-filter : {X : Type 0} (test other : X → Bool) (xs : List X) → filter test (filter other xs) ≡ filter (λ x. test x && other x) xs
filter-filter test other [] = refl
filter-filter {X} test other (x ∷ xs) = go (other x) (test x) refl (filter-filter test other xs)
  where
    go : (o b : Bool) → test x ≡ b → filter test (filter other xs) ≡ filter (λ (x : X). test x && other x) xs → filter test (cond o (x ∷ filter other xs) (filter other xs)) ≡ cond (b && o) (x ∷ filter (λ (x : X). test x && other x) xs) (filter (λ (x : X). test x && other x) xs)
    go true true is rest = rw is (ap (λ kept. x ∷ kept) rest)
    go true false is rest = rw is rest
    go false true is rest = rest
    go false false is rest = rest

-- ---- one pick

pub used-push : (terms : Terms) (picks : List Node) (node : Node) → used terms (picks ++ node ∷ []) ≡ used terms picks ++ subnet_of node ∷ []
used-push terms picks node = rw (map_push subnet_of picks node) (sym (append_assoc terms.taken (map subnet_of picks) (subnet_of node ∷ [])))

pub member-push : (subnets : List ℕ) (subnet q : ℕ) → is_member nat_eq (subnets ++ subnet ∷ []) q ≡ (is_member nat_eq subnets q || nat_eq q subnet)
member-push subnets subnet q = list_any-append (nat_eq q) subnets (subnet ∷ []) ∙ grind arith

-- a node that is picked
pub record IsFit (terms : Terms) (picks : List Node) (node : Node) : Type 0 where
  pub got : Got terms.nodes node
  pub fits : is_open terms node ≡ true
  pub apart_taken : is_member nat_eq terms.taken (subnet_of node) ≡ false
  pub apart : is_member nat_eq (map subnet_of picks) (subnet_of node) ≡ false

parts : (a b c : Bool) → (a && not (b || c)) ≡ true → (a ≡ true) × (b ≡ false) × (c ≡ false)
parts true true c is = cc
parts true false true is = cc
parts true false false is = (refl, refl, refl)
parts false b c is = cc

fit-eligible : (terms : Terms) (picks : List Node) (node : Node) → Got terms.nodes node → is_eligible terms (used terms picks) node ≡ true → IsFit terms picks node
fit-eligible terms picks node got is =
    let three = parts (is_open terms node) (is_member nat_eq terms.taken (subnet_of node)) (is_member nat_eq (map subnet_of picks) (subnet_of node)) (rw list_any-append at is) in
    record { got = got; fits = three.0; apart_taken = three.1; apart = three.2 }

pub fit-next : (terms : Terms) (class : Class) (picks : List Node) (node : Node) → next_pick terms class picks ≡ Some node → IsFit terms picks node
fit-next terms class picks node next =
    let of = got-kept (is_of class terms.vet) (eligible terms picks) node _ next in
    let kept = got-kept (is_eligible terms (used terms picks)) terms.nodes node of.1.0 of.1.1 in
    fit-eligible terms picks node kept.1 kept.0

from-parts : (a b c : Bool) → a ≡ true → b ≡ false → c ≡ false → (a && not (b || c)) ≡ true
from-parts a b c p q r = rw (p, q, r) refl

eligible-fit : (terms : Terms) (picks before : List Node) (node : Node) → IsFit terms picks node → is_member nat_eq (map subnet_of before) (subnet_of node) ≡ false → is_eligible terms (used terms before) node ≡ true
eligible-fit terms picks before node fit apart = rw list_any-append (from-parts (is_open terms node) (is_member nat_eq terms.taken (subnet_of node)) (is_member nat_eq (map subnet_of before) (subnet_of node)) fit.fits fit.apart_taken apart)

-- ---- runs of picks

-- no two picks are of one subnet, and each was eligible at the start
pub record AreSpread (terms : Terms) (picks : List Node) : Type 0 where
  pub among : All (Contains (eligible terms [])) picks
  pub apart : IsDistinct nat_eq (map subnet_of picks)

pub spread-none : (terms : Terms) → AreSpread terms []
spread-none terms = record { among = All-nil (Contains (eligible terms [])); apart = IsDistinct-from_apart nat_eq [] (λ i j d lt within. absurd (omega arith)) }

pub spread-drawn : (terms : Terms) (class : Class) (before after : List Node) → IsDrawn terms class before after → AreSpread terms before → AreSpread terms after
spread-drawn terms class before after nothing spread = spread
spread-drawn terms class before after (one_more {picks} {node} drawn next) spread =
    let rest = spread-drawn terms class before picks drawn spread in
    let fit = fit-next terms class picks node next in
    let kept = kept-got (is_eligible terms (used terms [])) terms.nodes node fit.got.0 fit.got.1 (eligible-fit terms picks [] node fit refl) in
    record {
      among = All-push (Contains (eligible terms [])) picks node rest.among (contains-got (eligible terms []) node kept);
      apart = rw map_push (IsDistinct-push nat_eq_equiv (map subnet_of picks) (subnet_of node) rest.apart fit.apart);
    }

pub length-drawn : (terms : Terms) (class : Class) (before after : List Node) → IsDrawn terms class before after → length before ≤ length after
length-drawn terms class before after nothing = omega arith
length-drawn terms class before after (one_more {picks} {node} drawn next) = let rest = length-drawn terms class before picks drawn in omega (arith, length_push picks node)

-- a class that has no eligible node left gets none
pub none-drawn : (terms : Terms) (other class : Class) (before after : List Node) → IsDrawn terms class before after → eligible_of terms other before ≡ [] → eligible_of terms other after ≡ []
none-drawn terms other class before after nothing none_left = none_left
none-drawn terms other class before after (one_more {picks} {node} drawn next) none_left =
    let rest = none-drawn terms other class before picks drawn none_left in
    filter-filter (is_of other terms.vet) (is_eligible terms (used terms (picks ++ node ∷ []))) terms.nodes
    ∙ none-stricter (λ (one : Node). is_of other terms.vet one && is_eligible terms (used terms picks) one) (λ one. is_of other terms.vet one && is_eligible terms (used terms (picks ++ node ∷ [])) one) terms.nodes
    (λ one is. stricter (is_of other terms.vet one) (is_open terms one) (is_member nat_eq (used terms picks) (subnet_of one)) (nat_eq (subnet_of one) (subnet_of node)) (rw (used-push terms picks node, member-push (used terms picks) (subnet_of node) (subnet_of one)) at is))
    (sym (filter-filter (is_of other terms.vet) (is_eligible terms (used terms picks)) terms.nodes) ∙ rest)
  where
    stricter : (a b c d : Bool) → (a && (b && not (c || d))) ≡ true → (a && (b && not c)) ≡ true
    stricter true true true d is = is
    stricter true true false d is = refl
    stricter true false c d is = is
    stricter false b c d is = is

-- ---- all picks

-- what is so of every node in a list is so of each subnet of theirs
any-is : (nodes : List Node) (test : ℕ → Bool) → All (λ node. test (subnet_of node) ≡ true) nodes → (q : ℕ) → is_member nat_eq (map subnet_of nodes) q ≡ true → test q ≡ true
any-is [] test all q is = cc
any-is (node ∷ nodes) test all q is = elim (or_cases (nat_eq q (subnet_of node)) (is_member nat_eq (map subnet_of nodes) q) is) [
  | inl here ↦ let same : q ≡ subnet_of node = eqb-true q (subnet_of node) here in rw same (All-head (λ node. test (subnet_of node) ≡ true) node nodes all)
  | inr later ↦ any-is nodes test (All-tail (λ node. test (subnet_of node) ≡ true) node nodes all) q later
]

contains-member : (nodes : List Node) (node : Node) → Contains nodes node → is_member nat_eq (map subnet_of nodes) (subnet_of node) ≡ true
contains-member nodes node has =
    list_any_at (nat_eq (subnet_of node)) (map subnet_of nodes) has.0 0 (rw length-map has.1)
    (rw (get_or-map subnet_of nodes has.0 node 0 has.1, has.2) (eq-eqb (subnet_of node) (subnet_of node) refl))

-- no node is left
all-met : (terms : Terms) (picks : List Node) → eligible_of terms Vetted picks ≡ [] → eligible_of terms Unvetted picks ≡ [] → All (λ node. is_member nat_eq (map subnet_of picks) (subnet_of node) ≡ true) (eligible terms [])
all-met terms picks vetted unvetted k d lt =
    let node = get_or (eligible terms []) k d in
    let kept = got-kept (is_eligible terms (used terms [])) terms.nodes node k (slice_get-get_or (eligible terms []) k d lt) in
    let fit = fit-eligible terms [] node kept.1 kept.0 in
    elim (cases_Bool (is_member nat_eq (map subnet_of picks) (subnet_of node))) [
      | inl met ↦ met
      | inr apart ↦
          let at = kept-got (is_eligible terms (used terms picks)) terms.nodes node kept.1.0 kept.1.1 (eligible-fit terms [] picks node fit apart) in
          elim (cases_lt node.passes terms.vet) [
            | inl few ↦ let left = kept-got (is_of Unvetted terms.vet) (eligible terms picks) node at.0 at.1 (lt-ltb node.passes terms.vet few) in absurd (none_left (eligible_of terms Unvetted picks) unvetted node left)
            | inr enough ↦ let left = kept-got (is_of Vetted terms.vet) (eligible terms picks) node at.0 at.1 (le-leb terms.vet node.passes enough) in absurd (none_left (eligible_of terms Vetted picks) vetted node left)
          ]
    ]
  where
    none_left : (nodes : List Node) → nodes ≡ [] → (node : Node) → Got nodes node → ⊥
    none_left [] is node got = cc
    none_left (first ∷ nodes) is node got = cc

-- where both classes have no node left, there are as many picks as subnets
all-picked : (terms : Terms) (picks : List Node) → AreSpread terms picks → eligible_of terms Vetted picks ≡ [] → eligible_of terms Unvetted picks ≡ [] → length picks ≡ subnet_count terms
all-picked terms picks spread vetted unvetted =
    sym (length-map picks subnet_of) ∙ length-from_keys nat_eq_equiv (map subnet_of picks) (map subnet_of (eligible terms [])) spread.apart
    (λ q. both-ways (is_member nat_eq (map subnet_of picks) q) (is_member nat_eq (map subnet_of (eligible terms [])) q)
    (any-is picks (is_member nat_eq (map subnet_of (eligible terms []))) (All-weaker (Contains (eligible terms [])) (λ node. is_member nat_eq (map subnet_of (eligible terms [])) (subnet_of node) ≡ true) (contains-member (eligible terms [])) picks spread.among) q)
    (any-is (eligible terms []) (is_member nat_eq (map subnet_of picks)) (all-met terms picks vetted unvetted) q))

member-unique : (xs : List ℕ) (q : ℕ) → is_member nat_eq xs q ≡ true → is_member nat_eq (unique_keys nat_eq xs) q ≡ true
member-unique [] q is = is
member-unique (x ∷ xs) q is = go (is_member nat_eq xs x) refl (member-unique xs)
  where
    go : (b : Bool) → is_member nat_eq xs x ≡ b → ((q : ℕ) → is_member nat_eq xs q ≡ true → is_member nat_eq (unique_keys nat_eq xs) q ≡ true) → is_member nat_eq (cond b (unique_keys nat_eq xs) (x ∷ unique_keys nat_eq xs)) q ≡ true
    go true again rest = elim (or_cases (nat_eq q x) (is_member nat_eq xs q) is) [
      | inl here ↦ let same : q ≡ x = eqb-true q x here in rw same (rest x again)
      | inr later ↦ rest q later
    ]
    go false again rest = elim (or_cases (nat_eq q x) (is_member nat_eq xs q) is) [
      | inl here ↦ or_left (nat_eq q x) (is_member nat_eq (unique_keys nat_eq xs) q) here
      | inr later ↦ or_right (nat_eq q x) (is_member nat_eq (unique_keys nat_eq xs) q) (rest q later)
    ]

-- there are no more picks than subnets
few-picked : (terms : Terms) (picks : List Node) → AreSpread terms picks → length picks ≤ subnet_count terms
few-picked terms picks spread =
    rw (← length-map picks subnet_of) (length-le_from_is_member nat_eq_equiv (map subnet_of picks) (unique_keys nat_eq (map subnet_of (eligible terms []))) spread.apart
    (λ q is. member-unique (map subnet_of (eligible terms [])) q (any-is picks (is_member nat_eq (map subnet_of (eligible terms []))) (All-weaker (Contains (eligible terms [])) (λ node. is_member nat_eq (map subnet_of (eligible terms [])) (subnet_of node) ≡ true) (contains-member (eligible terms [])) picks spread.among) q is)))

-- the four phases reach what is wanted, or as many picks as there are subnets
pub record AreAll (terms : Terms) (need : ℕ) (picks : List Node) : Type 0 where
  pub spread : AreSpread terms picks
  pub within : length picks ≤ need
  pub le : length picks ≤ subnet_count terms
  pub few : length picks < need → length picks ≡ subnet_count terms

pub all-phases : (terms : Terms) (need fresh : ℕ) (picks : List Node) → fresh ≤ need → ArePicks terms need fresh picks → AreAll terms need picks
all-phases terms need fresh picks le phases =
    let a = phases.vetted.within in
    let b = phases.unvetted.within in
    let c = phases.more_vetted.within in
    let d = phases.more_unvetted.within in
    let longer = length-drawn terms Unvetted phases.third picks phases.more_unvetted.drawn in
    let spread : AreSpread terms picks =
    spread-drawn terms Unvetted phases.third picks phases.more_unvetted.drawn (spread-drawn terms Vetted phases.second phases.third phases.more_vetted.drawn (spread-drawn terms Unvetted phases.first phases.second phases.unvetted.drawn (spread-drawn terms Vetted [] phases.first phases.vetted.drawn (spread-none terms)))) in
    record {
      spread = spread;
      within = omega arith;
      le = few-picked terms picks spread;
      few = λ lt. all-picked terms picks spread (none-drawn terms Vetted Unvetted phases.third picks phases.more_unvetted.drawn (phases.more_vetted.ended (omega arith))) (phases.more_unvetted.ended (omega arith));
    }
