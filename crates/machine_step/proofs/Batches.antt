-- Changes of a kind, one after another.
use Rattle.std.proofs.Common.{◌≡◌, ℕ, Bool, true, false, List, [], ◌∷◌, ◌++◌, Option, Some, None, refl, sym, ap, subst, ◌∙◌, arith}
use Rattle.std.specs.Prelude.{nat_lt, ◌==◌, map, filter_map}
use Rattle.std.specs.List.{cons_option}
use Rattle.std.proofs.lemmas.Bool.Decides.{nat_tests}
use Rattle.sat_base.specs.declared.records.Containment.{Containment}
use Rattle.sat_base.specs.Ranks.{containment_rank}
use Rattle.rows.specs.Rows.{row_at}
use Rattle.rows.specs.Slots.{with_row}
use Rattle.node_registry.specs.declared.node.Node.{Node}
use Rattle.node_registry.specs.Registry.{node_rank, node_at}
use Rattle.machine_calls.specs.declared.change.RecChange.{RecChange}
use Rattle.machine_calls.specs.declared.change.RecChange.TheVariants as changes
use Rattle.machine_step.specs.Tables.{Tables, changed, all_changed}
use Rattle.machine_step.specs.PlanRules.{is_owed}
use Rattle.machine_step.specs.Bounds.{Each}
use Rattle.machine_step.proofs.RowLemmas.{row_at-with_row}
use Rattle.machine_step.proofs.Steady.{IsUpdate, AllFit}
use Rattle.machine_step.proofs.Steady.NodeFits.{update}

pub fit-append : (from : ℕ) (xs ys : List RecChange) (t : Tables) → AllFit from t xs → AllFit from (all_changed t xs) ys → AllFit from t (xs ++ ys)
fit-append from [] ys t fx fy = fy
fit-append from (x ∷ xs) ys t fx fy = (fx.0, fit-append from xs ys (changed t x) fx.1 fy)

-- a node that can be put in place of another
pub record CanUpdate (nodes : List Node) (node : Node) : Type 0 where
  pub found : Node
  pub at : node_at nodes node.id ≡ Some found
  pub new : IsUpdate found node

can-later : (nodes : List Node) (one other : Node) → CanUpdate nodes one → CanUpdate nodes other → CanUpdate (with_row node_rank nodes one) other
can-later nodes one other a b = go (one.id.0 == other.id.0) refl
  where
    go : (same : Bool) → (one.id.0 == other.id.0) ≡ same → CanUpdate (with_row node_rank nodes one) other
    go true is =
        let ids : one.id.0 ≡ other.id.0 = grind (arith, nat_tests, is) in
        let found : a.found ≡ b.found = let there : Some a.found ≡ Some b.found = sym a.at ∙ ap (λ (k : ℕ). row_at node_rank nodes k) ids ∙ b.at in cc in
        let here : node_at (with_row node_rank nodes one) other.id ≡ Some one = grind (arith, nat_tests, is, row_at-with_row node_rank nodes one other.id.0) in
        let x = a.new in
        let y = subst (λ (f : Node). IsUpdate f other) (sym found) b.new in
        record { found = one; at = here; new = record { addr = y.addr ∙ sym x.addr; joined = y.joined ∙ sym x.joined; rated = y.rated ∙ sym x.rated; exited = y.exited ∙ sym x.exited } }
    go false is =
        let here : node_at (with_row node_rank nodes one) other.id ≡ Some b.found = let at = b.at in grind (arith, nat_tests, is, at, row_at-with_row node_rank nodes one other.id.0) in
        record { found = b.found; at = here; new = b.new }

all-later : (nodes : List Node) (one : Node) (others : List Node) → CanUpdate nodes one → Each (CanUpdate nodes) others → Each (CanUpdate (with_row node_rank nodes one)) others
all-later nodes one [] a each = tt
all-later nodes one (other ∷ others) a each = (can-later nodes one other a each.0, all-later nodes one others a each.1)

pub fit-nodes : (from : ℕ) (ns : List Node) (t : Tables) → Each (CanUpdate t.nodes) ns → AllFit from t (map changes.Node ns)
fit-nodes from [] t each = tt
fit-nodes from (n ∷ ns) t each =
    (update each.0.found each.0.at each.0.new, fit-nodes from ns (record t { nodes = with_row node_rank t.nodes n }) (all-later t.nodes n ns each.0 each.1))

-- the nodes after some are put
abbrev pub puts_of : List Node → List Node → List Node
puts_of nodes [] = nodes
puts_of nodes (n ∷ ns) = puts_of (with_row node_rank nodes n) ns

pub nodes-put : (ns : List Node) (t : Tables) → all_changed t (map changes.Node ns) ≡ record t { nodes = puts_of t.nodes ns }
nodes-put [] t = refl
nodes-put (n ∷ ns) t = nodes-put ns (record t { nodes = with_row node_rank t.nodes n })

abbrev pub OwedIn : ℕ → Tables → Containment → Type 0
OwedIn from t c = (is_owed t.setup t.segments c ≡ true) × (nat_lt c.segment.0 from ≡ true)

pub fit-containments : (from : ℕ) (cs : List Containment) (t : Tables) → Each (OwedIn from t) cs → AllFit from t (map changes.Containment cs)
fit-containments from [] t each = tt
fit-containments from (c ∷ cs) t each =
    (record { owed = each.0.0; below = each.0.1 }, fit-containments from cs (record t { containments = with_row containment_rank t.containments c }) (same t each.1))
  where
    same : (t : Tables) → Each (OwedIn from t) cs → Each (OwedIn from (record t { containments = with_row containment_rank t.containments c })) cs
    same t each = each

pub each-mapped : {X Y : Type 0} (P : Y → Type 0) (f : X → Option Y) (xs : List X) → ((x : X) (y : Y) → f x ≡ Some y → P y) → Each P (filter_map f xs)
each-mapped P f [] so = tt
each-mapped {X} {Y} P f (x ∷ xs) so = go (f x) refl (each-mapped P f xs so)
  where
    go : (o : Option Y) → f x ≡ o → Each P (filter_map f xs) → Each P (cons_option o (filter_map f xs))
    go None is rest = rest
    go (Some y) is rest = (so x y is, rest)
