-- The beta reputation of a node (Jøsang and Ismail, 2002), in thousandths: alpha weighs its passes and beta its fails, and both fade by a factor of 0.95 at each outcome.
use Rattle.std.specs.Prelude.{ℕ, ◌+◌, ◌-◌, ◌*◌, ◌/◌, ◌^◌, ◌≤◌, List, fold, min, nat_lt, if◌then◌else◌}
use Rattle.node_registry.specs.declared.node.Node.{Node}
use Rattle.node_registry.specs.declared.node.Status.TheVariants.{Disqualified}
use Rattle.node_registry.specs.declared.reputation.Outcome.{Outcome}
use Rattle.node_registry.specs.declared.reputation.Outcome.TheVariants.{Pass, Fail}
use Rattle.node_registry.specs.Standing.{is_serving}

-- the weights are in bounds
pub record IsRated (node : Node) : Type 0 where
  pub alpha : node.alpha ≤ 20000
  pub beta : node.beta ≤ 20000
  pub together : 1000 ≤ node.alpha + node.beta

-- the share of its passes
abbrev pub score_of : Node → ℕ
score_of node = node.alpha * 1000 / (node.alpha + node.beta)

-- a weight, one outcome later
abbrev pub faded : ℕ → ℕ
faded weight = weight * 950 / 1000

-- a node with one outcome more
abbrev pub weighed : Node → Outcome → Node
weighed node Pass = record node { alpha = faded node.alpha + 1000; beta = faded node.beta; passes = min (node.passes + 1) (2 ^ 32 - 1) }
weighed node Fail = record node { alpha = faded node.alpha; beta = faded node.beta + 1000 }

-- a score below 600 disqualifies
abbrev pub judged : Node → Node
judged node = if nat_lt (score_of node) 600 then record node { status = Disqualified } else node

-- a node after an outcome; one that isn't serving stays as it is
abbrev pub after_of : Node → Outcome → Node
after_of node outcome = if is_serving node.status then judged (weighed node outcome) else node

-- a node after outcomes, the first one first
abbrev pub reputation : Node → List Outcome → Node
reputation node outcomes = fold after_of node outcomes
