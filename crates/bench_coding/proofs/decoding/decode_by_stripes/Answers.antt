use Rattle.std.proofs.Common.{◌<◌, ℕ, List, refl, subst, All, ◌∙◌}
use Rattle.bw_decode.specs.Near.{Rises}
use Rattle.bench_coding.proofs.decoding.decode_by_stripes.Goals as goal

pub decode_rounds-requires-clause-rising : goal.decode_rounds-requires-clause-rising
decode_rounds-requires-clause-rising c =
    subst Rises (c.as_slice-points.ensures.value ∙ c.in_ok-indexes.ensures) (c.if-not-are_rising.ensures.rising refl)

pub decode_rounds-requires-clause-below : goal.decode_rounds-requires-clause-below
decode_rounds-requires-clause-below c =
    subst (λ (points : List ℕ). All (λ j. j < c.args.scheme.now.n) points) (c.as_slice-points.ensures.value ∙ c.in_ok-indexes.ensures)
    (c.if-not-are_rising.ensures.below refl)
