-- Indexes that are counted among others are as those are.
use Rattle.std.proofs.Common.{◌<◌, arith}
use Rattle.std.specs.Prelude.{All}
use Rattle.bw_decode.specs.Altered.{indexes_of}
use Rattle.audit_core.specs.Heard.{place_indexes}
use Rattle.audit_core.specs.declared.verdict.Judged.{Judged}
use Rattle.audit_core.proofs.Counted.{below-counted, each-below}

-- the answers of an audit have indexes of the scheme
pub answers_below : (judged : Judged) → All (λ i. i < judged.scheme.n) (indexes_of judged.answers)
answers_below judged =
    let each = judged.each_once in
    each-below judged.scheme.n (indexes_of judged.answers) (place_indexes judged.plan.asked) (λ x. omega (arith, each x))
    (λ x some. below-counted judged.scheme.n x (place_indexes judged.plan.asked) judged.below some)
