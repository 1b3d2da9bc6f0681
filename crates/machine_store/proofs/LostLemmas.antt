-- The index of segments knows the nodes whose pieces don't count.
use Rattle.std.proofs.Common.{◌≡◌, ℕ, suc, Bool, true, false, not, ◌&&◌, ◌||◌, List, [], ◌∷◌, Some, None, refl, sym, ap, subst, ◌∙◌, arith}
use Rattle.std.specs.Prelude.{◌==◌, if◌then◌else◌, filter, map}
use Rattle.std.proofs.lemmas.Bool.Decides.{nat_tests}
use Rattle.std.proofs.lemmas.Bool.{false_from_ne_true}
use Rattle.sat_base.specs.declared.ids.NodeId.{NodeId}
use Rattle.rows.specs.Slots.{with_row}
use Rattle.rows.proofs.Found.{row_at-with_row}
use Rattle.node_registry.specs.declared.node.Node.{Node}
use Rattle.node_registry.specs.Registry.{node_rank, node_at, CountsFrom}
use Rattle.node_registry.specs.Standing.{is_counted}
use Rattle.segment_core.specs.Record.{SegmentRecord}
use Rattle.segment_index.specs.Indexed.{Indexed, IsPlaced as IsSegmentPlaced}
use Rattle.segment_index.specs.Segments.{is_gone}
use Rattle.segment_index.proofs.Nodes.{gone_same}
use Rattle.machine_store.specs.Store.{is_lost, lost_ids, KnowsLost, StaysLost}
use Rattle.node_registry.proofs.Numbered.{none_below}

-- an index with the same nodes knows as much
pub knows-same : (nodes : List Node) (old new : Indexed) → new.gone ≡ old.gone → new.pending ≡ old.pending → KnowsLost nodes old → KnowsLost nodes new
knows-same nodes old new gone pending knows id = rw (gone, pending) (knows id)

-- and so does one where some of the nodes were counted
pub knows-counted : (nodes : List Node) (old new : Indexed) → ((id : NodeId) → (is_gone new.gone id || is_gone new.pending id) ≡ (is_gone old.gone id || is_gone old.pending id)) → KnowsLost nodes old → KnowsLost nodes new
knows-counted nodes old new same knows id = same id ∙ knows id

-- ---- the nodes of a table whose pieces don't count

pub lost-among : (nodes : List Node) (k : ℕ) → CountsFrom k nodes → (id : NodeId) → is_gone (lost_ids nodes) id ≡ is_lost (node_at nodes id)
lost-among [] k counts id = refl
lost-among (first ∷ rest) k counts id =
    let none : first.id.0 ≡ id.0 → node_at rest id ≡ None = λ e. none_below rest (suc k) id.0 counts.1 (omega (arith, e, counts.0)) in
    go (is_counted first.status) refl none (lost-among rest (suc k) counts.1 id)
  where
    go : (b : Bool) → is_counted first.status ≡ b → (first.id.0 ≡ id.0 → node_at rest id ≡ None) → is_gone (lost_ids rest) id ≡ is_lost (node_at rest id)
        → is_gone (map (λ node. node.id) (if not b then first ∷ filter (λ node. not (is_counted node.status)) rest else filter (λ node. not (is_counted node.status)) rest)) id ≡ is_lost (node_at (first ∷ rest) id)
    go true is none behind = grind (arith, nat_tests, is, none, behind)
    go false is none behind = grind (arith, nat_tests, is, none, behind)

-- an index of those nodes
pub knows-opened : (nodes : List Node) (index : Indexed) (gone : List NodeId) → CountsFrom 1 nodes → gone ≡ lost_ids nodes → ((id : NodeId) → is_gone index.gone id ≡ is_gone gone id) → index.pending ≡ [] → KnowsLost nodes index
knows-opened nodes index gone numbered lost same pending id =
    or_none (is_gone index.gone id) (is_gone index.pending id) (ap (λ (p : List NodeId). is_gone p id) pending) ∙ same id ∙ ap (λ (g : List NodeId). is_gone g id) lost ∙ lost-among nodes 1 numbered id
  where
    or_none : (a b : Bool) → b ≡ false → (a || b) ≡ a
    or_none true b e = refl
    or_none false b e = e

-- ---- changes

-- a node that stops serving, or serves after all, leaves the room for segments
pub placed-beside : (old new : Indexed) → new ≡ record old { pending = new.pending; room = record old.room { lost = new.room.lost } } → (segment : SegmentRecord) → IsSegmentPlaced old segment → IsSegmentPlaced new segment
placed-beside old new same segment placed =
    subst (λ (t : Indexed). IsSegmentPlaced t segment) (sym same) (record { low = placed.low; row = placed.row; live = placed.live; nodes = placed.nodes; need = placed.need })

-- a node was put
module _ (nodes : List Node) (node : Node) (old new : Indexed) (knows : KnowsLost nodes old) (gone : new.gone ≡ old.gone) where
  -- its pieces don't count
  lost-at : (id : NodeId) (b : Bool) → (node.id.0 == id.0) ≡ b → is_gone new.pending id ≡ (b || is_gone old.pending id) → is_counted node.status ≡ false
      → (is_gone new.gone id || is_gone new.pending id) ≡ is_lost (if b then Some node else node_at nodes id)
  lost-at id true is pending counts = grind (arith, pending, counts)
  lost-at id false is pending counts = rw (gone, pending) (knows id)

  pub knows-lost : is_counted node.status ≡ false → ((id : NodeId) → is_gone new.pending id ≡ ((node.id.0 == id.0) || is_gone old.pending id)) → KnowsLost (with_row node_rank nodes node) new
  knows-lost counts pending id =
      lost-at id (node.id.0 == id.0) refl (pending id) counts ∙ ap is_lost (sym (row_at-with_row node_rank nodes node id.0))

  -- they do
  kept-at : (id : NodeId) (b : Bool) → (node.id.0 == id.0) ≡ b → is_gone new.pending id ≡ (not b && is_gone old.pending id) → StaysLost old.gone node → is_counted node.status ≡ true
      → (is_gone new.gone id || is_gone new.pending id) ≡ is_lost (if b then Some node else node_at nodes id)
  kept-at id true is pending stays counts =
      let same : node.id.0 ≡ id.0 = grind (arith, nat_tests, is) in
      let absent : is_gone old.gone id ≡ false = false_from_ne_true (is_gone old.gone id) (λ h. let out = stays (gone_same old.gone id node.id h (sym same)) in absurd (cc (out, counts))) in
      rw (gone, pending, absent, counts) refl
  kept-at id false is pending stays counts = rw (gone, pending) (knows id)

  pub knows-kept : StaysLost old.gone node → is_counted node.status ≡ true → ((id : NodeId) → is_gone new.pending id ≡ (not (node.id.0 == id.0) && is_gone old.pending id)) → KnowsLost (with_row node_rank nodes node) new
  knows-kept stays counts pending id =
      kept-at id (node.id.0 == id.0) refl (pending id) stays counts ∙ ap is_lost (sym (row_at-with_row node_rank nodes node id.0))
