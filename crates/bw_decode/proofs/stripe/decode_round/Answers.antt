use Rattle.std.proofs.Common.{◌≤◌, refl, sym, ◌∙◌, subst, slice_index, arith, not, count_by}
use Rattle.bw_decode.specs.Answers.{IsPredicted}
use Rattle.bw_decode.proofs.Rounds.{enough_unmarked, none_near, round_known, round_marks}
use Rattle.bw_decode.proofs.stripe.decode_round.Goals as goal

pub predict-requires-clause-enough : goal.predict-requires-clause-enough
predict-requires-clause-enough c =
    subst (λ k. k ≤ count_by (λ mark. not mark) c.args.blamed.now) (sym c.from-k.ensures)
    (enough_unmarked c.args.scheme.now.k c.args.answers.now c.args.blamed.now c.requires.blamed c.requires.enough c.requires.few_marked)

pub returns-in-Unclear-clause-unclear : goal.returns-in-Unclear-clause-unclear
returns-in-Unclear-clause-unclear c same =
    let read = c.read_disagreement.ensures in
    none_near c.args.scheme.now.k c.args.scheme.now.share read.0 c.args.answers.now c.args.points.now c.read_disagreement.new.values
    c.requires.points read.2 read.1 (c.in-Unclear.ensures.unclear refl)

pub returns-in-Near-clause-known : goal.returns-in-Near-clause-known
returns-in-Near-clause-known c =
    let read = c.read_disagreement.ensures in
    round_known c.args.scheme.now.n c.args.scheme.now.k c.args.scheme.now.share read.0 c.args.answers.now c.args.points.now
    c.read_disagreement.new.values (slice_index c.column.new.out) c.args.blamed.now c.mark_off_codeword.new.blamed
    c.requires.points read.2 c.requires.rising (omega arith) c.requires.below
    read.1 c.requires.blamed c.requires.known (c.in-Near.ensures.near refl) c.mark_off_codeword.ensures

pub returns-in-Near-clause-blamed : goal.returns-in-Near-clause-blamed
returns-in-Near-clause-blamed c same =
    let places = c.predict.ensures in
    let read = c.read_disagreement.ensures in
    round_marks c.args.scheme.now.n c.args.scheme.now.k c.args.scheme.now.share read.0 c.args.answers.now c.args.points.now
    c.read_disagreement.new.values (slice_index c.column.new.out) c.args.blamed.now c.mark_off_codeword.new.blamed
    c.predict.new.stripe places.0 c.requires.points read.2
    c.requires.rising (omega arith) (omega arith) c.requires.below read.1 c.requires.blamed
    (omega (arith, c.mark_off_codeword.auto.blamed))
    (places.1 ∙ c.from-k.ensures) places.2
    (subst (λ n. IsPredicted n c.args.answers.now places.0 c.predict.new.stripe) c.from-size.ensures places.3)
    read.3 c.mark_off_codeword.ensures
