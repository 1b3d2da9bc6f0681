-- Nodes that are rated for places that lie on different nodes: each gets the outcome of its own place, and no other node changes.
use Rattle.std.proofs.Common.{◌≡◌, ℕ, Bool, true, false, not, List, [], ◌∷◌, Option, Some, None, refl, sym, ap, subst, ◌∙◌, arith}
use Rattle.std.specs.Prelude.{if◌then◌else◌, ◌==◌, map, filter, filter_map, option_and_then, option_to_list}
use Rattle.std.specs.Option.{option_map}
use Rattle.std.specs.List.{list_all, list_any, cons_option}
use Rattle.std.proofs.lemmas.Bool.Decides.{nat_tests}
use Rattle.sat_base.specs.declared.ids.NodeId.{NodeId}
use Rattle.sat_base.specs.declared.records.At.{At}
use Rattle.rows.specs.Slots.{with_row}
use Rattle.node_registry.specs.declared.node.Node.{Node}
use Rattle.node_registry.specs.declared.reputation.Outcome.{Outcome as Mark}
use Rattle.node_registry.specs.declared.reputation.Outcome.TheVariants.{Pass, Fail}
use Rattle.node_registry.specs.Standing.{is_serving}
use Rattle.node_registry.specs.Reputation.{judged, weighed, after_of, reputation}
use Rattle.node_registry.specs.Registry.{node_rank, node_at}
use Rattle.node_registry.specs.Subnet.{subnet_at}
use Rattle.machine_step.specs.Places.{addr_of, subnets_of}
use Rattle.machine_step.specs.Health.{after_outcome}
use Rattle.machine_step.specs.Mending.{failed}
use Rattle.machine_step.specs.Rules.{are_apart}
use Rattle.machine_step.specs.Calls.PlanExit.{lies_on}
use Rattle.machine_step.specs.Bounds.{Each}
use Rattle.machine_step.proofs.RowLemmas.{row_at-with_row, rank-found}
use Rattle.machine_step.proofs.Batches.{puts_of}
use Rattle.machine_step.proofs.Rated.{after-parts}
use Rattle.machine_plans.specs.Outcomes.{fails_on}

-- the places lie on different nodes
abbrev pub AreOther : List At → Type 0
AreOther [] = Unit {0}
AreOther (place ∷ rest) = (list_any (λ other. place.node.0 == other.node.0) rest ≡ false) × AreOther rest

-- places in subnets apart do
off-node : (nodes : List Node) (place : At) (rest : List At) → list_any (λ other. subnet_at (addr_of (node_at nodes place.node)) == other) (subnets_of nodes rest) ≡ false → list_any (λ other. place.node.0 == other.node.0) rest ≡ false
off-node nodes place [] off = refl
off-node nodes place (q ∷ rest) off =
    let same : place.node.0 ≡ q.node.0 → subnet_at (addr_of (node_at nodes place.node)) ≡ subnet_at (addr_of (node_at nodes q.node)) = λ e. ap (λ (k : ℕ). subnet_at (addr_of (node_at nodes (record { 0 = k })))) e in
    grind (arith, nat_tests, off, same, off-node nodes place rest)

pub other-apart : (nodes : List Node) (places : List At) → are_apart (subnets_of nodes places) ≡ true → AreOther places
other-apart nodes [] apart = tt
other-apart nodes (place ∷ rest) apart =
    (off-node nodes place rest (grind (arith, nat_tests, apart)), other-apart nodes rest (grind (arith, nat_tests, apart)))

-- a node that doesn't serve stays as it is
unserving : (node : Node) (mark : Mark) → is_serving node.status ≡ false → after_of node mark ≡ node
unserving node mark off = ap (λ (b : Bool). if b then judged (weighed node mark) else node) off

-- a node behind outcomes, if it is there
abbrev pub rated : List Mark → Option Node → Option Node
rated marks found = option_map (λ node. reputation node marks) found

pub unrated : (found : Option Node) → rated [] found ≡ found
unrated None = refl
unrated (Some node) = refl

module _ (nodes : List Node) (marks : At → Option Mark) where
  -- the node of a place behind its outcome
  abbrev pub rated_for : At → Option Node
  rated_for place = option_and_then (after_outcome (node_at nodes place.node)) (marks place)

  -- the outcomes of a node
  abbrev pub marks_on : NodeId → List At → List Mark
  marks_on id places = filter_map marks (filter (lies_on id) places)

  abbrev AsBefore : List Node → At → Type 0
  AsBefore acc place = node_at acc place.node ≡ node_at nodes place.node

  -- putting one node leaves the others
  others-stay : (acc : List Node) (next : Node) (place : At) (rest : List At) → next.id.0 ≡ place.node.0 → list_any (λ other. place.node.0 == other.node.0) rest ≡ false → Each (AsBefore acc) rest → Each (AsBefore (with_row node_rank acc next)) rest
  others-stay acc next place [] id off each = tt
  others-stay acc next place (q ∷ rest) id off each =
      let differ : (next.id.0 == q.node.0) ≡ false = grind (arith, nat_tests, id, off) in
      let more : list_any (λ other. place.node.0 == other.node.0) rest ≡ false = grind (arith, nat_tests, off) in
      let here : node_at (with_row node_rank acc next) q.node ≡ node_at acc q.node = grind (arith, nat_tests, differ, row_at-with_row node_rank acc next q.node.0) in
      (here ∙ each.0, others-stay acc next place rest id more each.1)

  abbrev Exact : List At → List Node → NodeId → Type 0
  Exact places acc id = node_at (puts_of acc (filter_map rated_for places)) id ≡ rated (marks_on id places) (node_at acc id)

  pub rated_all : (places : List At) (acc : List Node) → AreOther places → Each (AsBefore acc) places → (id : NodeId) → Exact places acc id
  rated_all [] acc other each id = sym (unrated (node_at acc id))
  rated_all (place ∷ rest) acc other each id = by (λ next stay. rated_all rest next other.1 stay id) (marks place) refl
    where
      tail : (o : Option Mark) → marks place ≡ o → (b : Bool) → (place.node.0 == id.0) ≡ b → marks_on id (place ∷ rest) ≡ (if b then cons_option o (marks_on id rest) else marks_on id rest)
      tail o is true here = ap (λ (b : Bool). filter_map marks (if b then place ∷ filter (lies_on id) rest else filter (lies_on id) rest)) here ∙ ap (λ (x : Option Mark). cons_option x (marks_on id rest)) is
      tail o is false here = ap (λ (b : Bool). filter_map marks (if b then place ∷ filter (lies_on id) rest else filter (lies_on id) rest)) here

      -- where nothing is put for the place
      nothing : ((next : List Node) → Each (AsBefore next) rest → Exact rest next id) → (o : Option Mark) → marks place ≡ o → option_and_then (after_outcome (node_at nodes place.node)) o ≡ None → (b : Bool) → (place.node.0 == id.0) ≡ b
          → (b ≡ true → rated (marks_on id rest) (node_at acc id) ≡ rated (cons_option o (marks_on id rest)) (node_at acc id)) → Exact (place ∷ rest) acc id
      nothing ih o is none b here same =
          ap (λ (x : Option Node). node_at (puts_of acc (cons_option x (filter_map rated_for rest))) id) (ap (option_and_then (after_outcome (node_at nodes place.node))) is ∙ none)
          ∙ ih acc each.1 ∙ at b here same
        where
          at : (b : Bool) → (place.node.0 == id.0) ≡ b → (b ≡ true → rated (marks_on id rest) (node_at acc id) ≡ rated (cons_option o (marks_on id rest)) (node_at acc id))
              → rated (marks_on id rest) (node_at acc id) ≡ rated (marks_on id (place ∷ rest)) (node_at acc id)
          at true here same = same refl ∙ ap (λ (ms : List Mark). rated ms (node_at acc id)) (sym (tail o is true here))
          at false here same = ap (λ (ms : List Mark). rated ms (node_at acc id)) (sym (tail o is false here))

      here_is : (place.node.0 == id.0) ≡ true → node_at acc id ≡ node_at nodes place.node
      here_is here = let ids : place.node.0 ≡ id.0 = grind (arith, nat_tests, here) in ap (λ (k : ℕ). node_at acc (record { 0 = k })) (sym ids) ∙ each.0

      -- where the node behind the outcome is put
      something : ((next : List Node) → Each (AsBefore next) rest → Exact rest next id) → (node : Node) (mark : Mark) → marks place ≡ Some mark → node_at nodes place.node ≡ Some node → is_serving node.status ≡ true → (b : Bool) → (place.node.0 == id.0) ≡ b → Exact (place ∷ rest) acc id
      something ih node mark is found serves b here =
          let next = after_of node mark in
          let put : rated_for place ≡ Some next = ap (option_and_then (after_outcome (node_at nodes place.node))) is ∙ ap (λ (o : Option Node). after_outcome o mark) found ∙ ap (λ (b : Bool). if b then Some next else None) serves in
          let id_is : next.id.0 ≡ place.node.0 = ap (λ (k : NodeId). k.0) (after-parts node mark serves).id ∙ rank-found node_rank nodes place.node.0 node found in
          ap (λ (x : Option Node). node_at (puts_of acc (cons_option x (filter_map rated_for rest))) id) put
          ∙ ih (with_row node_rank acc next) (others-stay acc next place rest id_is other.0 each.1) ∙ at b here id_is
        where
          at : (b : Bool) → (place.node.0 == id.0) ≡ b → (after_of node mark).id.0 ≡ place.node.0 → rated (marks_on id rest) (node_at (with_row node_rank acc (after_of node mark)) id) ≡ rated (marks_on id (place ∷ rest)) (node_at acc id)
          at true here id_is =
              let same : ((after_of node mark).id.0 == id.0) ≡ true = grind (arith, nat_tests, here, id_is) in
              let now : node_at (with_row node_rank acc (after_of node mark)) id ≡ Some (after_of node mark) = grind (arith, nat_tests, same, row_at-with_row node_rank acc (after_of node mark) id.0) in
              ap (rated (marks_on id rest)) now ∙ sym (ap (λ (o : Option Node). rated (mark ∷ marks_on id rest) o) (here_is here ∙ found))
              ∙ ap (λ (ms : List Mark). rated ms (node_at acc id)) (sym (tail (Some mark) is true here))
          at false here id_is =
              let differ : ((after_of node mark).id.0 == id.0) ≡ false = grind (arith, nat_tests, here, id_is) in
              let same : node_at (with_row node_rank acc (after_of node mark)) id ≡ node_at acc id = grind (arith, nat_tests, differ, row_at-with_row node_rank acc (after_of node mark) id.0) in
              ap (rated (marks_on id rest)) same ∙ ap (λ (ms : List Mark). rated ms (node_at acc id)) (sym (tail (Some mark) is false here))

      found_as : ((next : List Node) → Each (AsBefore next) rest → Exact rest next id) → (mark : Mark) → marks place ≡ Some mark → (found : Option Node) → node_at nodes place.node ≡ found → Exact (place ∷ rest) acc id
      found_as ih mark is None at =
          nothing ih (Some mark) is (ap (λ (o : Option Node). after_outcome o mark) at) (place.node.0 == id.0) refl
          (λ here. ap (rated (marks_on id rest)) (here_is here ∙ at) ∙ sym (ap (rated (mark ∷ marks_on id rest)) (here_is here ∙ at)))
      found_as ih mark is (Some node) at = serving (is_serving node.status) refl
        where
          serving : (b : Bool) → is_serving node.status ≡ b → Exact (place ∷ rest) acc id
          serving true serves = something ih node mark is at serves (place.node.0 == id.0) refl
          serving false serves =
              nothing ih (Some mark) is (ap (λ (o : Option Node). after_outcome o mark) at ∙ ap (λ (b : Bool). if b then Some (after_of node mark) else None) serves) (place.node.0 == id.0) refl
              (λ here. ap (rated (marks_on id rest)) (here_is here ∙ at) ∙ ap (λ (n : Node). Some (reputation n (marks_on id rest))) (sym (unserving node mark serves))
              ∙ sym (ap (rated (mark ∷ marks_on id rest)) (here_is here ∙ at)))

      by : ((next : List Node) → Each (AsBefore next) rest → Exact rest next id) → (o : Option Mark) → marks place ≡ o → Exact (place ∷ rest) acc id
      by ih None is = nothing ih None is refl (place.node.0 == id.0) refl (λ here. refl)
      by ih (Some mark) is = found_as ih mark is (node_at nodes place.node) refl

  as_before : (places : List At) → Each (AsBefore nodes) places
  as_before [] = tt
  as_before (place ∷ rest) = (refl, as_before rest)

  -- the nodes behind the outcomes of all places
  pub rated_exactly : (places : List At) → AreOther places → (id : NodeId) → node_at (puts_of nodes (filter_map rated_for places)) id ≡ rated (marks_on id places) (node_at nodes id)
  rated_exactly places other id = rated_all places nodes other (as_before places) id

-- ---- fails

abbrev pub fail_if : (At → Bool) → At → Option Mark
fail_if fails place = if fails place then Some Fail else None

pub failed-is : (nodes : List Node) (fails : At → Bool) (places : List At) → failed nodes fails places ≡ filter_map (rated_for nodes (fail_if fails)) places
failed-is nodes fails [] = refl
failed-is nodes fails (place ∷ rest) =
    ap (λ (o : Option Node). cons_option o (failed nodes fails rest)) (one (fails place)) ∙ ap (cons_option (rated_for nodes (fail_if fails) place)) (failed-is nodes fails rest)
  where
    one : (b : Bool) → (if b then after_outcome (node_at nodes place.node) Fail else None) ≡ option_and_then (after_outcome (node_at nodes place.node)) (if b then Some Fail else None)
    one true = refl
    one false = refl

pub fails-are : (id : NodeId) (fails : At → Bool) (places : List At) → filter_map (fail_if fails) (filter (lies_on id) places) ≡ fails_on id fails places
fails-are id fails places = go (filter (lies_on id) places)
  where
    go : (xs : List At) → filter_map (fail_if fails) xs ≡ map (λ _. Fail) (filter fails xs)
    go [] = refl
    go (x ∷ xs) = at (fails x) (go xs)
      where
        at : (b : Bool) → filter_map (fail_if fails) xs ≡ map (λ _. Fail) (filter fails xs) → cons_option (if b then Some Fail else None) (filter_map (fail_if fails) xs) ≡ map (λ _. Fail) (if b then x ∷ filter fails xs else filter fails xs)
        at true rest = ap (λ (ms : List Mark). Fail ∷ ms) rest
        at false rest = rest
