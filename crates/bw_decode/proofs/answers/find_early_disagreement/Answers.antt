use Rattle.std.proofs.Common.{◌<◌, sym, ap, subst}
use Rattle.bw_decode.proofs.Rounds.{index_below}
use Rattle.bw_decode.proofs.answers.find_early_disagreement.Goals as goal

pub column_off-requires-clause-index : goal.column_off-requires-clause-index
column_off-requires-clause-index c =
    let n = c.args.scheme.now.n in
    let a = c.index-answers-i.result in
    subst (λ j. j < n) (sym (ap (λ a. a.index) c.index-answers-i.is))
    (index_below n c.args.answers.now c.requires.points c.loop-i.i a c.loop-i-test.true)
