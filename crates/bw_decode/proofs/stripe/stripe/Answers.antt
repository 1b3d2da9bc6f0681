use Rattle.std.proofs.Common.{sym, subst, length, arith}
use Rattle.std.proofs.lemmas.List.{length-take-le}
use Rattle.bw_decode.specs.Answers.{AreKnown}
use Rattle.bw_decode.proofs.Rounds.{few_answers, first_known}
use Rattle.bw_decode.proofs.stripe.stripe.Goals as goal

pub slice_bounds-points_room-end : goal.slice_bounds-points_room-end
slice_bounds-points_room-end c =
    omega (arith, few_answers c.args.scheme.now.n c.args.answers.now c.requires.rising c.requires.below)

pub slice_bounds-points-end : goal.slice_bounds-points-end
slice_bounds-points-end c =
    sym (length-take-le (length c.args.answers.now) _
    (omega (arith, few_answers c.args.scheme.now.n c.args.answers.now c.requires.rising c.requires.below)))

pub read_indexes-requires : goal.read_indexes-requires
read_indexes-requires c =
    sym (length-take-le (length c.args.answers.now) _
    (omega (arith, few_answers c.args.scheme.now.n c.args.answers.now c.requires.rising c.requires.below)))

pub decode_rounds-requires-clause-room : goal.decode_rounds-requires-clause-room
decode_rounds-requires-clause-room c =
    omega (arith, c.requires.room, few_answers c.args.scheme.now.n c.args.answers.now c.requires.rising c.requires.below)

pub decode_rounds-requires-clause-known : goal.decode_rounds-requires-clause-known
decode_rounds-requires-clause-known c =
    subst (λ size. AreKnown c.args.scheme.now.k size c.args.answers.now c.mark_wrong_lengths.new.blamed) c.from-2.ensures
    (first_known c.args.scheme.now.k c.from-2.result c.args.answers.now c.mark_wrong_lengths.new.blamed c.mark_wrong_lengths.ensures)
