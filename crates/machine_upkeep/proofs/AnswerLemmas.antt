-- The answers of an audit are at most as many as a segment has pieces.
use Rattle.std.proofs.Common.{◌<◌, ◌≤◌, length, arith}
use Rattle.std.specs.Prelude.{All}
use Rattle.std.proofs.lemmas.List.{length-map}
use Rattle.sat_base.specs.declared.items.Share.{Share}
use Rattle.bw_decode.specs.Altered.{indexes_of}
use Rattle.bw_decode.specs.Near.{Rises}
use Rattle.bw_decode.proofs.Rounds.{few_rising}
use Rattle.audit_core.specs.Heard.{place_indexes}
use Rattle.audit_core.specs.Verdict.{NamesEach, silent_indexes}
use Rattle.audit_core.specs.declared.verdict.Judged.{Judged}
use Rattle.audit_core.proofs.Counted.{below-counted, each-below}

pub few-answers : (judged : Judged) → judged.scheme.n ≤ 128 → Rises (indexes_of judged.answers) → NamesEach (place_indexes judged.plan.asked) (indexes_of judged.answers) judged.missing (silent_indexes judged.silent)
    → All (λ index. index < judged.scheme.n) (place_indexes judged.plan.asked) → length judged.answers ≤ 128
few-answers judged few rise each below =
    let all : All (λ i. i < judged.scheme.n) (indexes_of judged.answers) = each-below judged.scheme.n (indexes_of judged.answers) (place_indexes judged.plan.asked) (λ x. omega (arith, each x)) (λ x some. below-counted judged.scheme.n x (place_indexes judged.plan.asked) below some) in
    let most = few_rising judged.scheme.n (indexes_of judged.answers) rise all in
    omega (arith, most, few, length-map judged.answers (λ (answer : Share). answer.index))
