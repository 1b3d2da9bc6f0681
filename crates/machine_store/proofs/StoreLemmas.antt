-- Room that is made for one change after another, and changes made one after another.
use Rattle.std.proofs.Common.{◌≡◌, ℕ, true, zero, suc, ◌+◌, ◌<◌, List, [], ◌∷◌, ◌++◌, length, take, drop, get_or, reverse, refl, sym, ap, subst, arith}
use Rattle.std.proofs.lemmas.List.{reverse-append}
use Rattle.std.specs.Prelude.{Result, Ok, Err, OnOk}
use Rattle.node_registry.specs.declared.node.Node.{Node}
use Rattle.node_registry.specs.Registry.{Nodes}
use Rattle.segment_core.specs.Record.{SegmentRecord}
use Rattle.segment_index.specs.Indexed.{Indexed, IsPlaced as IsSegmentPlaced}
use Rattle.sat_base.specs.declared.ids.NodeId.{NodeId}
use Rattle.machine_calls.specs.declared.change.RecChange.{RecChange}
use Rattle.std.specs.List.{list_all}
use Rattle.std.proofs.lemmas.Bool.{and_parts}
use Rattle.machine_calls.specs.declared.change.RecChange.TheVariants as changes
use Rattle.machine_step.specs.Tables.{Tables}
use Rattle.machine_store.specs.declared.store.Store.{Store}
use Rattle.machine_store.specs.Store.{IsPlaceable, ArePlaceable, IsNodePlaced, StaysLost, IsPlaced, ArePlaced, spares}

-- what keeps each room keeps them all
pub placed-kept : (s t : Store) (cs : List RecChange) → ((c : RecChange) → IsPlaced s c → IsPlaced t c) → ArePlaced s cs → ArePlaced t cs
placed-kept s t [] keeps placed = tt
placed-kept s t (c ∷ cs) keeps placed = (keeps c placed.0, placed-kept s t cs keeps placed.1)

-- and one more
pub placed-more : (s : Store) (cs : List RecChange) (c : RecChange) → ArePlaced s cs → IsPlaced s c → ArePlaced s (cs ++ c ∷ [])
placed-more s [] c placed one = (one, tt)
placed-more s (d ∷ cs) c placed one = (placed.0, placed-more s cs c placed.1 one)

-- after a change, the later ones still have room
pub placed-spared : (s t : Store) (first : RecChange) (cs : List RecChange) → ((c : RecChange) → spares first c ≡ true → IsPlaced s c → IsPlaced t c) → list_all (spares first) cs ≡ true → ArePlaced s cs → ArePlaced t cs
placed-spared s t first [] keeps spared placed = tt
placed-spared s t first (c ∷ cs) keeps spared placed =
    let parts = and_parts (spares first c) (list_all (spares first) cs) spared in
    (keeps c parts.0 placed.0, placed-spared s t first cs keeps parts.1 placed.1)

-- the last of a list is the first of its reverse
pub reverse-last : {A : Type 0} (xs : List A) (x : A) → reverse (xs ++ x ∷ []) ≡ x ∷ reverse xs
reverse-last xs x = reverse-append xs (x ∷ [])

pub length-last : {A : Type 0} (xs : List A) (x : A) → length (xs ++ x ∷ []) ≡ length xs + 1
length-last [] x = refl
length-last (y ∷ xs) x = let more = length-last xs x in omega (arith, more)

-- each of the changes can be placed
pub placeable-at : (t : Tables) (before : List RecChange) (c : RecChange) (after : List RecChange) → ArePlaceable t (before ++ c ∷ after) → IsPlaceable t c
placeable-at t [] c after placeable = placeable.0
placeable-at t (d ∷ before) c after placeable = placeable-at t before c after placeable.1

-- other nodes and another index leave the room of all else
module _ (s : Store) (nodes : Nodes) (index : Indexed) (gone : index.gone ≡ s.segments.gone) where
  pub kept-beside : ((node : Node) → IsNodePlaced s.nodes node → IsNodePlaced nodes node) → ((segment : SegmentRecord) → IsSegmentPlaced s.segments segment → IsSegmentPlaced index segment)
      → (c : RecChange) → IsPlaced s c → IsPlaced (record s { nodes = nodes; segments = index }) c
  kept-beside keeps others (changes.Node r) placed = (keeps r placed.0, subst (λ (g : List NodeId). StaysLost g r) (sym gone) placed.1)
  kept-beside keeps others (changes.Segment r) placed = record { index = others r placed.index; pieces = placed.pieces; short = placed.short }
  kept-beside keeps others (changes.SettledRow r) placed = record { row = placed.row; order = placed.order }
  kept-beside keeps others c placed = placed

pub on_ok : {T E : Type 0} {P : Type 0} (r : Result T E) → P → OnOk r P
on_ok (Ok x) p = p
on_ok (Err e) p = tt

-- a list around one of its items
pub take-drop-at : {X : Type 0} (xs : List X) (i : ℕ) (d : X) → i < length xs → take i xs ++ get_or xs i d ∷ drop (suc i) xs ≡ xs
take-drop-at [] i d lt = absurd (omega arith)
take-drop-at (x ∷ xs) zero d lt = refl
take-drop-at {X} (x ∷ xs) (suc i) d lt = ap (λ (ys : List X). x ∷ ys) (take-drop-at xs i d (omega arith))
