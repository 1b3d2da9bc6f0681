use Rattle.std.proofs.Common.{◌≢◌, ◌<◌, subst, length, arith, slice_index}
use Rattle.std.proofs.lemmas.Option.{IfSome_then}
use Rattle.bw_decode.proofs.Rounds.{differs_there}
use Rattle.bw_decode.proofs.answers.column_off.Goals as goal

pub returns-clause-some : goal.returns-clause-some
returns-clause-some c =
    let row = c.write_share.new.share in
    IfSome_then c.find_difference.result c.find_difference.ensures.some
    (λ place found. differs_there c.args.scheme.now.k c.args.scheme.now.share place c.args.stripe.now row c.args.answer.now
    c.requires.whole c.write_share.ensures (omega (arith, c.write_share.auto.share, c.requires.share))
    (subst (λ bytes. (place < length row) × (slice_index row place ≢ slice_index bytes place)) c.as_slice.ensures found))
