-- The rows of an hour are at most as many as nodes.
use Rattle.std.proofs.Common.{◌≡◌, ℕ, suc, ◌+◌, ◌≤◌, Bool, true, false, not, List, [], ◌∷◌, length, None, arith}
use Rattle.std.specs.Prelude.{if◌then◌else◌, ◌==◌, filter, map}
use Rattle.std.proofs.lemmas.Bool.Decides.{nat_tests}
use Rattle.sat_base.specs.declared.settings.Marks.{Marks}
use Rattle.node_registry.specs.declared.node.Node.{Node}
use Rattle.tally_payout.specs.declared.amounts.Tally.{Tally}
use Rattle.machine_step.specs.Bounds.{IsValid}
use Rattle.machine_step.specs.Calls.TallyHour.{tally_of, hour_rows}
use Rattle.machine_step.specs.Rules.{first_bad, breaks_node}
use Rattle.machine_step.specs.Tables.{Setup, Tables}

few-nodes : (setup : Setup) (marks : Marks) (nodes : List Node) (i : ℕ) → first_bad (breaks_node setup marks) i nodes ≡ None → i ≤ setup.caps.nodes → i + length nodes ≤ setup.caps.nodes
few-nodes setup marks [] i none le = omega arith
few-nodes setup marks (node ∷ rest) i none le = grind (arith, nat_tests, none, few-nodes setup marks rest (suc i))

few-tallied : (t : Tables) (hour : ℕ) (nodes : List Node) → length (filter (λ tally. not (tally.bytes == 0)) (map (tally_of t hour) nodes)) ≤ length nodes
few-tallied t hour [] = omega arith
few-tallied t hour (node ∷ rest) = go (not ((tally_of t hour node).bytes == 0)) (few-tallied t hour rest)
  where
    others : List Tally
    others = filter (λ tally. not (tally.bytes == 0)) (map (tally_of t hour) rest)

    go : (b : Bool) → length others ≤ length rest → length (if b then tally_of t hour node ∷ others else others) ≤ suc (length rest)
    go true le = omega (arith, le)
    go false le = omega (arith, le)

pub few_rows : (t : Tables) (hour : ℕ) → IsValid t → length (hour_rows t hour) ≤ 65536
unfolding hour_rows
few_rows t hour v =
    let tallied = few-tallied t hour t.nodes in
    let nodes = few-nodes t.setup t.marks t.nodes 0 v.rules.nodes (omega arith) in
    omega (arith, tallied, nodes, v.bounds.setup.caps.nodes.1)
