-- No step lets the pieces of a node count again.
use Rattle.std.proofs.Common.{◌≡◌, Bool, true, false, List, Option, Some, None, refl, ap, sym, arith, subst, ◌∙◌}
use Rattle.std.specs.Prelude.{if◌then◌else◌, ℕ}
use Rattle.std.specs.Option.{option_and_then}
use Rattle.sat_base.specs.declared.ids.NodeId.{NodeId}
use Rattle.node_registry.specs.declared.node.Node.{Node}
use Rattle.node_registry.specs.declared.node.Status.{Status}
use Rattle.node_registry.specs.declared.node.Status.TheVariants.{Active, Disqualified, Exiting, Exited}
use Rattle.node_registry.specs.declared.reputation.Outcome.{Outcome as Mark}
use Rattle.node_registry.specs.Registry.{node_rank, node_at}
use Rattle.node_registry.specs.Reputation.{after_of}
use Rattle.node_registry.specs.Standing.{is_counted, is_serving}
use Rattle.rows.specs.Rows.{row_at}
use Rattle.machine_step.specs.Bounds.{IsValid}
use Rattle.machine_step.specs.Health.{after_outcome}
use Rattle.machine_step.specs.Tables.{Tables}
use Rattle.machine_step.proofs.Batches.{CanUpdate}
use Rattle.machine_step.proofs.Rated.{after-parts, can-outcome}
use Rattle.machine_step.proofs.RowLemmas.{rank-found}
use Rattle.machine_store.specs.Store.{is_lost}

-- where the pieces of a node don't count, they don't once this one is put
abbrev pub Stays : List Node → Node → Type 0
Stays nodes node = is_lost (node_at nodes node.id) ≡ true → is_counted node.status ≡ false

-- a node that can be put in place of another
abbrev pub CanTake : List Node → Node → Type 0
CanTake nodes node = CanUpdate nodes node × Stays nodes node

pub serves-counts : (status : Status) → is_serving status ≡ true → is_counted status ≡ true
serves-counts Active serves = serves
serves-counts Disqualified serves = serves
serves-counts Exiting serves = serves
serves-counts Exited serves = serves

-- a node whose pieces count is not lost
pub stays-counted : (nodes : List Node) (node found : Node) → node_at nodes node.id ≡ Some found → is_counted found.status ≡ true → Stays nodes node
stays-counted nodes node found at counts lost =
    let none : is_lost (Some found) ≡ true = ap is_lost (sym at) ∙ lost in
    grind (arith, counts, none)

-- a node that gets an outcome serves
stays-after : (nodes : List Node) (id : NodeId) (mark : Mark) (next : Node) → after_outcome (node_at nodes id) mark ≡ Some next → Stays nodes next
stays-after nodes id mark next is = go (node_at nodes id) refl is
  where
    at : (found : Node) → node_at nodes id ≡ Some found → (b : Bool) → is_serving found.status ≡ b → (if b then Some (after_of found mark) else None) ≡ Some next → Stays nodes next
    at found there true serves same =
        let equal : after_of found mark ≡ next = cc in
        let parts = after-parts found mark serves in
        let own : found.id.0 ≡ id.0 = rank-found node_rank nodes id.0 found there in
        let ids : next.id ≡ found.id = ap (λ (n : Node). n.id) (sym equal) ∙ parts.id in
        let here : node_at nodes next.id ≡ Some found = ap (λ (k : NodeId). row_at node_rank nodes k.0) ids ∙ ap (λ (k : ℕ). row_at node_rank nodes k) own ∙ there in
        stays-counted nodes next found here (serves-counts found.status serves)
    at found there false serves same = cc

    go : (found : Option Node) → node_at nodes id ≡ found → after_outcome found mark ≡ Some next → Stays nodes next
    go None there same = cc
    go (Some found) there same = at found there (is_serving found.status) refl same

stays-outcome : (nodes : List Node) (id : NodeId) (mark : Option Mark) (next : Node) → option_and_then (after_outcome (node_at nodes id)) mark ≡ Some next → Stays nodes next
stays-outcome nodes id None next is = cc
stays-outcome nodes id (Some mark) next is = stays-after nodes id mark next is

pub can-take : (t : Tables) → IsValid t → (id : NodeId) (mark : Option Mark) (next : Node) → option_and_then (after_outcome (node_at t.nodes id)) mark ≡ Some next → CanTake t.nodes next
can-take t v id mark next is = (can-outcome t v id mark next is, stays-outcome t.nodes id mark next is)
