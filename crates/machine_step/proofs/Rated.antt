-- Nodes after outcomes, which can be put in place of those before.
use Rattle.std.proofs.Common.{◌≡◌, ℕ, suc, Bool, true, false, List, [], ◌∷◌, Option, Some, None, refl, sym, ap, subst, ◌∙◌, arith}
use Rattle.std.specs.Prelude.{if◌then◌else◌, nat_lt, option_and_then}
use Rattle.std.proofs.lemmas.Bool.Decides.{nat_tests}
use Rattle.sat_base.specs.declared.ids.NodeId.{NodeId}
use Rattle.sat_base.specs.declared.settings.Marks.{Marks}
use Rattle.rows.specs.Rows.{row_at}
use Rattle.node_registry.specs.declared.node.Node.{Node}
use Rattle.node_registry.specs.declared.node.Status.{Status}
use Rattle.node_registry.specs.declared.node.Status.TheVariants.{Active, Disqualified, Exiting, Exited}
use Rattle.node_registry.specs.declared.reputation.Outcome.{Outcome as Mark}
use Rattle.node_registry.specs.declared.reputation.Outcome.TheVariants.{Pass, Fail}
use Rattle.node_registry.specs.Standing.{is_serving, is_disqualified}
use Rattle.node_registry.specs.Reputation.{IsRated, weighed, judged as rejudged, after_of, score_of}
use Rattle.node_registry.specs.Registry.{node_rank, node_at}
use Rattle.node_registry.proofs.Rated.{rated-reputation}
use Rattle.machine_step.specs.Tables.{Setup, Tables}
use Rattle.machine_step.specs.Containment.{serves}
use Rattle.machine_step.specs.Health.{after_outcome}
use Rattle.machine_step.specs.Rules.{first_bad, is_rated, breaks_node}
use Rattle.machine_step.specs.PlanRules.{is_exited}
use Rattle.machine_step.specs.Bounds.{IsValid}
use Rattle.machine_step.proofs.RowLemmas.{rank-found}
use Rattle.machine_step.proofs.Batches.{CanUpdate}
use Rattle.machine_step.proofs.Paid.{IsStill}

weighed-exited : (node : Node) (mark : Mark) → is_exited (weighed node mark).status ≡ is_exited node.status
weighed-exited node Pass = refl
weighed-exited node Fail = refl

serving-here : (node : Node) → is_serving node.status ≡ true → is_exited node.status ≡ false
serving-here node serving = grind (arith, serving)

pub record Rejudged (node next : Node) : Type 0 where
  pub id : next.id ≡ node.id
  pub addr : next.addr ≡ node.addr
  pub joined : next.joined ≡ node.joined
  pub exited : is_exited node.status ≡ false → is_exited next.status ≡ false

pub after-parts : (node : Node) (mark : Mark) → is_serving node.status ≡ true → Rejudged node (after_of node mark)
after-parts node mark serving = go (is_serving node.status) serving mark
  where
    low : (b : Bool) (mark : Mark) → Rejudged node (if b then record (weighed node mark) { status = Disqualified } else weighed node mark)
    low true Pass = record { id = refl; addr = refl; joined = refl; exited = λ h. refl }
    low true Fail = record { id = refl; addr = refl; joined = refl; exited = λ h. refl }
    low false Pass = record { id = refl; addr = refl; joined = refl; exited = λ h. h }
    low false Fail = record { id = refl; addr = refl; joined = refl; exited = λ h. h }

    go : (b : Bool) → b ≡ true → (mark : Mark) → Rejudged node (if b then rejudged (weighed node mark) else node)
    go true is mark = low (nat_lt (score_of (weighed node mark)) 600) mark
    go false is mark = cc

rated-test : (node : Node) → IsRated node → is_rated node ≡ true
rated-test node rated = let a = rated.alpha in let b = rated.beta in let c = rated.together in grind (arith, nat_tests, a, b, c)

pub rated-facts : (node : Node) → is_rated node ≡ true → IsRated node
rated-facts node sound = record { alpha = grind (arith, nat_tests, sound); beta = grind (arith, nat_tests, sound); together = grind (arith, nat_tests, sound) }

-- each node that is found is rated
pub rated-found : (setup : Setup) (marks : Marks) (rows : List Node) (i k : ℕ) (found : Node) → first_bad (breaks_node setup marks) i rows ≡ None → row_at node_rank rows k ≡ Some found → is_rated found ≡ true
rated-found setup marks [] i k found sound at = cc
rated-found setup marks (row ∷ rows) i k found sound at = grind (arith, nat_tests, sound, at, rated-found setup marks rows (suc i) k found)

-- whose outcome a node is behind: that of a serving one
record IsBehind (nodes : List Node) (id : NodeId) (mark : Mark) (next : Node) : Type 0 where
  found : Node
  there : node_at nodes id ≡ Some found
  at : node_at nodes (after_of found mark).id ≡ Some found
  serves : is_serving found.status ≡ true
  is : after_of found mark ≡ next

behind : (nodes : List Node) (id : NodeId) (mark : Mark) (next : Node) → after_outcome (node_at nodes id) mark ≡ Some next → IsBehind nodes id mark next
behind nodes id mark next is = go (node_at nodes id) refl is
  where
    at : (found : Node) → node_at nodes id ≡ Some found → (b : Bool) → is_serving found.status ≡ b → (if b then Some (after_of found mark) else None) ≡ Some next → IsBehind nodes id mark next
    at found there true serves same =
        let equal : after_of found mark ≡ next = cc in
        let own : found.id.0 ≡ id.0 = rank-found node_rank nodes id.0 found there in
        record {
          found = found;
          there = there;
          at = ap (λ (k : NodeId). row_at node_rank nodes k.0) (after-parts found mark serves).id ∙ ap (λ (k : ℕ). row_at node_rank nodes k) own ∙ there;
          serves = serves;
          is = equal;
        }
    at found there false serves same = cc

    go : (found : Option Node) → node_at nodes id ≡ found → after_outcome found mark ≡ Some next → IsBehind nodes id mark next
    go None there same = cc
    go (Some found) there same = at found there (is_serving found.status) refl same

serving-stays : (status : Status) → is_serving status ≡ true → is_disqualified status ≡ true → ⊥
serving-stays Active serves gone = cc
serving-stays Disqualified serves gone = cc
serving-stays Exiting serves gone = cc
serving-stays Exited serves gone = cc

-- a node behind an outcome is the one before in all that pay goes by
still-after : (nodes : List Node) (id : NodeId) (mark : Mark) (next : Node) → after_outcome (node_at nodes id) mark ≡ Some next → IsStill nodes next
still-after nodes id mark next is =
    let b = behind nodes id mark next is in
    let parts = after-parts b.found mark b.serves in
    subst (λ (n : Node). IsStill nodes n) b.is (record {
      found = b.found;
      at = b.at;
      same = record { id = parts.id; joined = parts.joined; gone = λ gone. absurd (serving-stays b.found.status b.serves gone) };
    })

pub still-outcome : (nodes : List Node) (id : NodeId) (mark : Option Mark) (next : Node) → option_and_then (after_outcome (node_at nodes id)) mark ≡ Some next → IsStill nodes next
still-outcome nodes id None next is = cc
still-outcome nodes id (Some mark) next is = still-after nodes id mark next is

module _ (t : Tables) (v : IsValid t) where
  can-after : (id : NodeId) (mark : Mark) (next : Node) → after_outcome (node_at t.nodes id) mark ≡ Some next → CanUpdate t.nodes next
  can-after id mark next is =
      let b = behind t.nodes id mark next is in
      let parts = after-parts b.found mark b.serves in
      let rated = rated-found t.setup t.marks t.nodes 0 id.0 b.found v.rules.nodes b.there in
      let again : is_rated (after_of b.found mark) ≡ true = rated-test (after_of b.found mark) (rated-reputation b.found (mark ∷ []) (rated-facts b.found rated)) in
      let here = serving-here b.found b.serves in
      subst (λ (n : Node). CanUpdate t.nodes n) b.is (record {
        found = b.found;
        at = b.at;
        new = record { addr = parts.addr; joined = parts.joined; rated = again ∙ sym rated; exited = parts.exited here ∙ sym here };
      })

  pub can-outcome : (id : NodeId) (mark : Option Mark) (next : Node) → option_and_then (after_outcome (node_at t.nodes id)) mark ≡ Some next → CanUpdate t.nodes next
  can-outcome id None next is = cc
  can-outcome id (Some mark) next is = can-after id mark next is
