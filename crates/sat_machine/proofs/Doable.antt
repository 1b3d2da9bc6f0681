-- Outcomes whose changes can be placed, none of which takes another's room.
use Rattle.std.proofs.Common.{◌≡◌, ℕ, suc, ◌+◌, ◌≤◌, Bool, true, false, List, [], ◌∷◌, ◌++◌, length, Option, Some, None, refl, arith}
use Rattle.std.specs.Prelude.{map}
use Rattle.std.specs.List.{list_all}
use Rattle.std.proofs.lemmas.Bool.Decides.{nat_tests}
use Rattle.std.proofs.lemmas.Bool.{and_parts, and_from}
use Rattle.sat_base.specs.declared.ids.NodeId.{NodeId}
use Rattle.sat_base.specs.declared.records.Containment.{Containment}
use Rattle.sat_base.specs.declared.records.Key.TheVariants as keys
use Rattle.rows.specs.Rows.{row_at}
use Rattle.node_registry.specs.declared.node.Node.{Node}
use Rattle.node_registry.specs.Registry.{node_rank, node_at}
use Rattle.machine_calls.specs.declared.change.RecChange.{RecChange}
use Rattle.machine_calls.specs.declared.change.RecChange.TheVariants as changes
use Rattle.machine_calls.specs.declared.reply.Reply.{Reply}
use Rattle.machine_step.specs.Bounds.{Each, IsValid}
use Rattle.machine_step.specs.Containment.{release, fallen, with_releases, swept}
use Rattle.machine_step.specs.Outcome.{Outcome, unchanged}
use Rattle.machine_step.specs.Rules.{first_bad, breaks_node}
use Rattle.machine_step.specs.Tables.{Tables, all_changed}
use Rattle.machine_step.proofs.GrowthLemmas.{ids_above}
use Rattle.sat_machine.proofs.StayLemmas.{CanTake, Stays}
use Rattle.machine_store.specs.Store.{IsNodePlaceable, IsPlaceable, ArePlaceable, is_lost, spares, are_orderly}

-- the changes of an outcome can be placed, and are in order
pub record IsDoable (t : Tables) (o : Outcome) : Type 0 where
  pub placeable : ArePlaceable t o.changes
  pub orderly : are_orderly o.changes ≡ true

pub still : (t : Tables) (answer : Reply) → IsDoable t (unchanged answer)
still t answer = record { placeable = tt; orderly = refl }

-- ---- changes that leave room for any other

abbrev pub is_tame : RecChange → Bool
is_tame (changes.SettledRow row) = false
is_tame (changes.Segment segment) = false
is_tame (changes.Remove (keys.Segment id)) = false
is_tame (changes.Remove (keys.Containment node)) = false
is_tame (changes.Tally tally) = false
is_tame (changes.Statement statement) = false
is_tame _ = true

spares-tame : (c d : RecChange) → is_tame c ≡ true → spares c d ≡ true
spares-tame (changes.SettledRow row) d h = cc
spares-tame (changes.Segment segment) d h = cc
spares-tame (changes.Remove (keys.Segment id)) d h = cc
spares-tame (changes.Remove (keys.Containment node)) d h = cc
spares-tame (changes.Tally tally) d h = cc
spares-tame (changes.Statement statement) d h = cc
spares-tame c d h = refl

pub tame-all : (c : RecChange) (cs : List RecChange) → is_tame c ≡ true → list_all (spares c) cs ≡ true
tame-all c [] h = refl
tame-all c (d ∷ cs) h = and_from _ _ (spares-tame c d h) (tame-all c cs h)

-- a change that can be placed, and leaves room
abbrev pub IsEasy : Tables → RecChange → Type 0
IsEasy t c = IsPlaceable t c × (is_tame c ≡ true)

pub easy-placeable : (t : Tables) (xs ys : List RecChange) → Each (IsEasy t) xs → ArePlaceable t ys → ArePlaceable t (xs ++ ys)
easy-placeable t [] ys each placeable = placeable
easy-placeable t (x ∷ xs) ys each placeable = (each.0.0, easy-placeable t xs ys each.1 placeable)

pub easy-orderly : (t : Tables) (xs ys : List RecChange) → Each (IsEasy t) xs → are_orderly ys ≡ true → are_orderly (xs ++ ys) ≡ true
easy-orderly t [] ys each orderly = orderly
easy-orderly t (x ∷ xs) ys each orderly = and_from _ _ (tame-all x (xs ++ ys) each.0.1) (easy-orderly t xs ys each.1 orderly)

pub each-append : {X : Type 0} (P : X → Type 0) (xs ys : List X) → Each P xs → Each P ys → Each P (xs ++ ys)
each-append P [] ys fx fy = fy
each-append P (x ∷ xs) ys fx fy = (fx.0, each-append P xs ys fx.1 fy)

pub easy-containments : (t : Tables) (cs : List Containment) → Each (IsEasy t) (map changes.Containment cs)
easy-containments t [] = tt
easy-containments t (c ∷ cs) = ((tt, refl), easy-containments t cs)

-- ---- nodes that are there

-- an id that is found is at most the number of nodes
ids_within : (t : Tables) (rows : List Node) (i k : ℕ) (found : Node) → first_bad (breaks_node t.setup t.marks) i rows ≡ None → row_at node_rank rows k ≡ Some found → k ≤ i + length rows
ids_within t [] i k found h at = cc
ids_within t (first ∷ rows) i k found h at = grind (arith, nat_tests, h, at, ids_within t rows (suc i) k found)

-- nor above the cap
ids_capped : (t : Tables) (rows : List Node) (i k : ℕ) (found : Node) → first_bad (breaks_node t.setup t.marks) i rows ≡ None → row_at node_rank rows k ≡ Some found → k ≤ t.setup.caps.nodes
ids_capped t [] i k found h at = cc
ids_capped t (first ∷ rows) i k found h at = grind (arith, nat_tests, h, at, ids_capped t rows (suc i) k found)

-- a node that is found has an id from 1 to 65536
pub found-within : (t : Tables) (v : IsValid t) (id : ℕ) (found : Node) → row_at node_rank t.nodes id ≡ Some found → (1 ≤ id) × (id ≤ 65536)
found-within t v id found at =
    let low = ids_above t.setup t.marks t.nodes 0 id found v.rules.nodes at in
    let high = ids_capped t t.nodes 0 id found v.rules.nodes at in
    (omega (arith, low), omega (arith, high, v.bounds.setup.caps.nodes.1))

pub node-placeable : (t : Tables) (v : IsValid t) (node found : Node) → node_at t.nodes node.id ≡ Some found → Stays t.nodes node → IsNodePlaceable t.nodes node
node-placeable t v node found at stays =
    let low = ids_above t.setup t.marks t.nodes 0 node.id.0 found v.rules.nodes at in
    let high = ids_within t t.nodes 0 node.id.0 found v.rules.nodes at in
    record { low = omega (arith, low); high = omega (arith, high); next = λ is. absurd (omega (arith, high, is)); stays = stays }

-- there is no node of the next id
pub none-next : (t : Tables) → IsValid t → (id : NodeId) → id.0 ≡ length t.nodes + 1 → (counts : Bool) → is_lost (node_at t.nodes id) ≡ true → counts ≡ false
none-next t v id next counts = go (node_at t.nodes id) refl
  where
    go : (o : Option Node) → node_at t.nodes id ≡ o → is_lost o ≡ true → counts ≡ false
    go None at lost = cc
    go (Some found) at lost = let high = ids_within t t.nodes 0 id.0 found v.rules.nodes at in absurd (omega (arith, high, next))

pub easy-nodes : (t : Tables) → IsValid t → (ns : List Node) → Each (CanTake t.nodes) ns → Each (IsEasy t) (map changes.Node ns)
easy-nodes t v [] each = tt
easy-nodes t v (n ∷ ns) each = ((node-placeable t v n each.0.0.found each.0.0.at each.0.1, refl), easy-nodes t v ns each.1)

-- ---- the removals behind a step

spares-release : (c : RecChange) (row : Containment) → spares c (release row) ≡ true
spares-release (changes.SettledRow settled) row = refl
spares-release (changes.Segment segment) row = refl
spares-release (changes.Remove (keys.Segment id)) row = refl
spares-release (changes.Remove (keys.Containment node)) row = refl
spares-release (changes.Tally tally) row = refl
spares-release (changes.Statement statement) row = refl
spares-release c row = refl

spares-releases : (c : RecChange) (rows : List Containment) → list_all (spares c) (map release rows) ≡ true
spares-releases c [] = refl
spares-releases c (row ∷ rows) = and_from _ _ (spares-release c row) (spares-releases c rows)

all-append : (test : RecChange → Bool) (xs ys : List RecChange) → list_all test xs ≡ true → list_all test ys ≡ true → list_all test (xs ++ ys) ≡ true
all-append test [] ys fx fy = fy
all-append test (x ∷ xs) ys fx fy = let parts = and_parts (test x) (list_all test xs) fx in and_from _ _ parts.0 (all-append test xs ys parts.1 fy)

orderly-releases : (cs : List RecChange) (rows : List Containment) → are_orderly cs ≡ true → are_orderly (cs ++ map release rows) ≡ true
orderly-releases [] [] orderly = refl
orderly-releases [] (row ∷ rows) orderly = and_from _ _ (spares-releases (release row) rows) (orderly-releases [] rows refl)
orderly-releases (c ∷ cs) rows orderly =
    let parts = and_parts (list_all (spares c) cs) (are_orderly cs) orderly in
    and_from _ _ (all-append (spares c) cs (map release rows) parts.0 (spares-releases c rows)) (orderly-releases cs rows parts.1)

placeable-releases : (t : Tables) (cs : List RecChange) (rows : List Containment) → ArePlaceable t cs → ArePlaceable t (cs ++ map release rows)
placeable-releases t [] [] placeable = tt
placeable-releases t [] (row ∷ rows) placeable = (tt, placeable-releases t [] rows tt)
placeable-releases t (c ∷ cs) rows placeable = (placeable.0, placeable-releases t cs rows placeable.1)

placeable-with : (t : Tables) (cs : List RecChange) → ArePlaceable t cs → ArePlaceable t (with_releases t cs)
placeable-with t [] placeable = tt
placeable-with t (c ∷ cs) placeable = placeable-releases t (c ∷ cs) (fallen (all_changed t (c ∷ cs))) placeable

orderly-with : (t : Tables) (cs : List RecChange) → are_orderly cs ≡ true → are_orderly (with_releases t cs) ≡ true
orderly-with t [] orderly = refl
orderly-with t (c ∷ cs) orderly = orderly-releases (c ∷ cs) (fallen (all_changed t (c ∷ cs))) orderly

pub doable-swept : (t : Tables) (o : Outcome) → IsDoable t o → IsDoable t (swept t o)
doable-swept t o doable = record { placeable = placeable-with t o.changes doable.placeable; orderly = orderly-with t o.changes doable.orderly }
