use Rattle.std.proofs.Common.{ℕ, ◌<◌, List, All, ap, subst, ◌∙◌}
use Rattle.bw_decode.specs.Near.{Rises}
use Rattle.repair_core.specs.Indexes.{place_indexes}
use Rattle.trial_coding.proofs.places.rise.Goals as goal

pub returns-clause-rising : goal.returns-clause-rising
returns-clause-rising c = λ fine.
    subst Rises (c.as_slice-2.ensures.value ∙ c.in_ok-indexes.ensures ∙ ap place_indexes c.as_slice.ensures) (c.are_rising.ensures.rising fine)

pub returns-clause-below : goal.returns-clause-below
returns-clause-below c = λ fine.
    subst (λ (xs : List ℕ). All (λ index. index < c.args.n) xs) (c.as_slice-2.ensures.value ∙ c.in_ok-indexes.ensures ∙ ap place_indexes c.as_slice.ensures) (c.are_rising.ensures.below fine)
