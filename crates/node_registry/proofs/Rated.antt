-- Weights stay in bounds over outcomes, and a disqualified node stays so.
use Rattle.std.proofs.Common.{◌≡◌, Bool, true, false, List, [], ◌∷◌, ◌++◌, refl, arith}
use Rattle.std.specs.Prelude.{if◌then◌else◌}
use Rattle.node_registry.specs.declared.node.Node.{Node}
use Rattle.node_registry.specs.declared.node.Status.TheVariants.{Disqualified}
use Rattle.node_registry.specs.declared.reputation.Outcome.{Outcome}
use Rattle.node_registry.specs.declared.reputation.Outcome.TheVariants.{Pass, Fail}
use Rattle.node_registry.specs.Standing.{is_serving}
use Rattle.node_registry.specs.Reputation.{IsRated, weighed, judged, after_of, reputation}

rated-weighed : (node : Node) (outcome : Outcome) → IsRated node → IsRated (weighed node outcome)
rated-weighed node Pass rated = let a = rated.alpha in let b = rated.beta in record { alpha = omega arith; beta = omega arith; together = omega arith }
rated-weighed node Fail rated = let a = rated.alpha in let b = rated.beta in record { alpha = omega arith; beta = omega arith; together = omega arith }

-- a status changes no weight
rated-status : (test : Bool) (node : Node) → IsRated node → IsRated (if test then record node { status = Disqualified } else node)
rated-status true node rated = record { alpha = rated.alpha; beta = rated.beta; together = rated.together }
rated-status false node rated = rated

rated-either : (test : Bool) (one other : Node) → IsRated one → IsRated other → IsRated (if test then one else other)
rated-either true one other a b = a
rated-either false one other a b = b

rated-after : (node : Node) (outcome : Outcome) → IsRated node → IsRated (after_of node outcome)
rated-after node outcome rated = rated-either (is_serving node.status) (judged (weighed node outcome)) node (rated-status _ (weighed node outcome) (rated-weighed node outcome rated)) rated

pub rated-reputation : (node : Node) (outcomes : List Outcome) → IsRated node → IsRated (reputation node outcomes)
rated-reputation node [] rated = rated
rated-reputation node (outcome ∷ rest) rated = rated-reputation (after_of node outcome) rest (rated-after node outcome rated)

-- a disqualified node isn't serving
stays : (node : Node) (outcomes : List Outcome) → node.status ≡ Disqualified → (reputation node outcomes).status ≡ Disqualified
stays node [] is = is
stays node (outcome ∷ rest) is =
    let same : after_of node outcome ≡ node = rw is refl in
    stays (after_of node outcome) rest (rw same is)

pub disqualified-reputation : (node : Node) (before later : List Outcome) → (reputation node before).status ≡ Disqualified → (reputation node (before ++ later)).status ≡ Disqualified
disqualified-reputation node [] later is = stays node later is
disqualified-reputation node (outcome ∷ before) later is = disqualified-reputation (after_of node outcome) before later is
