-- The flags of a draft tell which nodes are eligible.
use Rattle.std.proofs.Common.{◌≡◌, ℕ, zero, suc, ◌+◌, ◌%◌, ◌<◌, Bool, true, false, List, [], ◌∷◌, ◌++◌, length, get_or, map, take, Some, refl, sym, ap, cond, ◌∙◌, arith}
use Rattle.std.specs.Prelude.{◌&&◌, ◌||◌, not, filter, nat_eq, slice_get, slice_index}
use Rattle.std.specs.Set.{is_member}
use Rattle.std.proofs.lemmas.Option.{slice_get_read}
use Rattle.std.proofs.lemmas.List.{length-map, length_push, map_more, nil_from_length}
use Rattle.node_registry.specs.declared.node.Node.{Node}
use Rattle.placement.specs.declared.request.Class.{Class}
use Rattle.placement.specs.declared.request.Class.TheVariants.{Vetted, Unvetted}
use Rattle.placement.specs.declared.draft.Draft.{Draft}
use Rattle.placement.specs.Flags.{rank, count}
use Rattle.placement.specs.Eligible.{Terms, is_open, is_of, is_eligible, subnet_of, used, eligible_of, next_pick}
use Rattle.placement.specs.Chains.{struck}
use Rattle.placement.specs.Draft.{flags_of, flags_in, IsDraftAt, AddsPick}
use Rattle.placement.specs.Placed.{IsDrawn, one_more}
use Rattle.placement.proofs.Picks.{filter-filter, member-push}

-- ---- flags of nodes

-- whether a node of a class is eligible where these subnets are used
abbrev pub test_of : Terms → Class → List ℕ → Node → Bool
test_of terms class subnets node = is_of class terms.vet node && is_eligible terms subnets node

regrouped : (a b c d : Bool) → ((a && (b && not c)) && not d) ≡ (a && (b && not (c || d)))
regrouped true true true d = refl
regrouped true true false d = refl
regrouped true false c d = refl
regrouped false b c d = refl

struck-flags : (terms : Terms) (class : Class) (subnets : List ℕ) (subnet : ℕ) (nodes : List Node) → struck (map subnet_of nodes) subnet (map (test_of terms class subnets) nodes) ≡ map (test_of terms class (subnets ++ subnet ∷ [])) nodes
struck-flags terms class subnets subnet [] = refl
struck-flags terms class subnets subnet (node ∷ nodes) =
    rw (struck-flags terms class subnets subnet nodes, member-push subnets subnet (subnet_of node), regrouped (is_of class terms.vet node) (is_open terms node) (is_member nat_eq subnets (subnet_of node)) (nat_eq (subnet_of node) subnet)) refl

-- the place of a flag that is set among those that are
selected : (test : Node → Bool) (nodes : List Node) (at : ℕ) → get_or (map test nodes) at false ≡ true → slice_get (filter test nodes) (rank at (map test nodes)) ≡ slice_get nodes at
selected test [] at is = cc
selected test (node ∷ nodes) zero is = rw is refl
selected test (node ∷ nodes) (suc at) is = go (test node) (selected test nodes at is)
  where
    go : (b : Bool) → slice_get (filter test nodes) (rank at (map test nodes)) ≡ slice_get nodes at → slice_get (cond b (node ∷ filter test nodes) (filter test nodes)) (rank (suc at) (b ∷ map test nodes)) ≡ slice_get nodes at
    go true rest = rest
    go false rest = rest

count-flags : (test : Node → Bool) (nodes : List Node) → count (map test nodes) ≡ length (filter test nodes)
count-flags test [] = refl
count-flags test (node ∷ nodes) = go (test node) (count-flags test nodes)
  where
    go : (b : Bool) → count (map test nodes) ≡ length (filter test nodes) → count (b ∷ map test nodes) ≡ length (cond b (node ∷ filter test nodes) (filter test nodes))
    go true rest = ap suc rest
    go false rest = rest

pub eligible-flags : (terms : Terms) (class : Class) (picks : List Node) → eligible_of terms class picks ≡ filter (test_of terms class (used terms picks)) terms.nodes
eligible-flags terms class picks = filter-filter (is_of class terms.vet) (is_eligible terms (used terms picks)) terms.nodes

-- where no flag is set, no node is eligible
pub none-eligible : (terms : Terms) (class : Class) (picks : List Node) → count (flags_of terms class (used terms picks)) ≡ 0 → eligible_of terms class picks ≡ []
none-eligible terms class picks none = eligible-flags terms class picks ∙ nil_from_length _ (sym (count-flags (test_of terms class (used terms picks)) terms.nodes) ∙ none)

set-within : (flags : List Bool) (at : ℕ) → get_or flags at false ≡ true → at < length flags
set-within [] at is = cc
set-within (flag ∷ flags) zero is = omega arith
set-within (flag ∷ flags) (suc at) is = let rest = set-within flags at is in omega arith

-- the flag at the word's place among those that are set is that of the next pick
pub next-flag : (terms : Terms) (class : Class) (picks : List Node) (flags : List Bool) (word n at : ℕ) (node : Node) → flags ≡ flags_of terms class (used terms picks) → word ≡ slice_index terms.words (length picks) → n ≡ count flags → get_or flags at false ≡ true → rank at flags ≡ word % n → node ≡ get_or terms.nodes at node → next_pick terms class picks ≡ Some node
next-flag terms class picks flags word n at node flags_is word_is n_is set before read =
    let test = test_of terms class (used terms picks) in
    let is : get_or (map test terms.nodes) at false ≡ true = rw (← flags_is) set in
    let among : rank at (map test terms.nodes) ≡ slice_index terms.words (length picks) % length (filter test terms.nodes) =
    rw (← flags_is, before, word_is, n_is, flags_is, count-flags test terms.nodes) refl in
    let within : at < length terms.nodes = omega (arith, set-within (map test terms.nodes) at is, length-map terms.nodes test) in
    rw (eligible-flags terms class picks, ← among) (selected test terms.nodes at is ∙ slice_get_read terms.nodes (length terms.nodes) at node refl within read)

-- one node more, and what is said of it
pub mapped-more : {Y : Type 0} (f : Node → Y) (nodes : List Node) (old new : List Y) (at : ℕ) (node : Node) (y : Y) → at < length nodes → node ≡ get_or nodes at node → old ≡ map f (take at nodes) → new ≡ old ++ y ∷ [] → y ≡ f node → new ≡ map f (take (at + 1) nodes)
mapped-more f nodes old new at node y lt read old_is new_is y_is =
    new_is ∙ rw (old_is, map_more f nodes at node lt, y_is) (ap (λ one. map f (take at nodes) ++ f one ∷ []) read)

-- whether a node may be picked where no subnet is used
pub open-flag : (terms : Terms) (class : Class) (node : Node) (flag : Bool) → flag ≡ (is_of class terms.vet node && is_open terms node) → flag ≡ test_of terms class [] node
open-flag terms class node flag is = is ∙ go (is_of class terms.vet node) (is_open terms node)
  where
    go : (a b : Bool) → (a && b) ≡ (a && (b && true))
    go true true = refl
    go true false = refl
    go false b = refl

-- ---- drafts

pub length-flags : (terms : Terms) (class : Class) (subnets : List ℕ) (draft : Draft) → IsDraftAt terms subnets draft → length (flags_in class draft) ≡ length terms.nodes
length-flags terms Vetted subnets draft is = ap length is.vetted ∙ length-map terms.nodes (test_of terms Vetted subnets)
length-flags terms Unvetted subnets draft is = ap length is.unvetted ∙ length-map terms.nodes (test_of terms Unvetted subnets)

pub flags-draft : (terms : Terms) (class : Class) (subnets : List ℕ) (draft : Draft) → IsDraftAt terms subnets draft → flags_in class draft ≡ flags_of terms class subnets
flags-draft terms Vetted subnets draft is = is.vetted
flags-draft terms Unvetted subnets draft is = is.unvetted

-- one subnet more is used
pub struck-draft : (terms : Terms) (subnets : List ℕ) (subnet : ℕ) (old new : Draft) → IsDraftAt terms subnets old → new.chains ≡ old.chains → new.vetted ≡ struck old.chains.subnets subnet old.vetted → new.unvetted ≡ struck old.chains.subnets subnet old.unvetted → IsDraftAt terms (subnets ++ subnet ∷ []) new
struck-draft terms subnets subnet old new is chains vetted unvetted = record {
  chains = rw chains is.chains;
  vetted = vetted ∙ rw (is.chains, is.vetted) (struck-flags terms Vetted subnets subnet terms.nodes);
  unvetted = unvetted ∙ rw (is.chains, is.unvetted) (struck-flags terms Unvetted subnets subnet terms.nodes);
}

-- ---- picks

pub record AreMore (terms : Terms) (class : Class) (before picks after : List Node) : Type 0 where
  pub drawn : IsDrawn terms class before after
  pub longer : length after ≡ length picks + 1

pub drawn-more : (terms : Terms) (class : Class) (before picks after : List Node) → IsDrawn terms class before picks → AddsPick terms class picks after → AreMore terms class before picks after
drawn-more terms class before picks after drawn adds = record {
  drawn = rw adds.is (one_more drawn adds.next);
  longer = ap length adds.is ∙ length_push picks adds.node;
}
