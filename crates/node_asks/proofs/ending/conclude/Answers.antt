use Rattle.std.proofs.Common.{◌≡◌, ◌≤◌, true, false, List, ℕ, length, sym, subst, arith}
use Rattle.std.specs.Prelude.{All}
use Rattle.bw_decode.specs.Near.{Rises}
use Rattle.repair_core.specs.Indexes.{has_index, place_indexes, others}
use Rattle.node_asks.proofs.EndingLemmas.{enough}
use Rattle.node_asks.proofs.ending.conclude.Goals as goal

pub invariant_of-result-2-clause-blamed_rise : goal.invariant_of-result-2-clause-blamed_rise
invariant_of-result-2-clause-blamed_rise c = subst Rises (sym c.in_ok-copy.ensures) c.requires.blamed_rise

pub invariant_of-result-2-clause-placed_at_targets : goal.invariant_of-result-2-clause-placed_at_targets
invariant_of-result-2-clause-placed_at_targets c =
    let P : List ℕ → Type 0 = λ xs. All (λ index. has_index (place_indexes c.args.plan.targets) index ≡ true) xs in
    subst P (sym c.placed.view_is) c.requires.placed_at_targets

pub invariant_of-result-2-clause-blamed_of_sources : goal.invariant_of-result-2-clause-blamed_of_sources
invariant_of-result-2-clause-blamed_of_sources c =
    let P : List ℕ → Type 0 = λ xs. All (λ index. has_index (place_indexes c.args.plan.sources) index ≡ true) xs in
    subst P (sym c.in_ok-copy.ensures) c.requires.blamed_of_sources

pub invariant_of-result-2-clause-apart : goal.invariant_of-result-2-clause-apart
invariant_of-result-2-clause-apart c =
    let P : List ℕ → Type 0 = λ xs. All (λ index. has_index c.args.missing index ≡ false) xs in
    subst P (sym c.in_ok-copy.ensures) c.requires.missing_apart

pub invariant_of-result-2-clause-enough : goal.invariant_of-result-2-clause-enough
invariant_of-result-2-clause-enough c =
    let few = enough (place_indexes c.args.plan.sources) c.args.blamed.now c.args.answered.now c.args.missing
    c.requires.sources_rise c.requires.answered_rise c.requires.answered_of_sources c.requires.missing_silent in
    let P : List ℕ → Type 0 = λ xs. c.args.scheme.now.k ≤ length (others (place_indexes c.args.plan.sources) xs c.args.missing) in
    subst P (sym c.in_ok-copy.ensures) (omega (arith, few, c.count_sound.ensures, c.if-count_sound-from.false))
