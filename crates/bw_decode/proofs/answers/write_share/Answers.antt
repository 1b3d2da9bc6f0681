use Rattle.std.proofs.Common.{ap, ◌∙◌, arith, slice_index}
use Rattle.rs_stripe.specs.Segment.{share_of}
use Rattle.bw_decode.specs.Room.{IsHeldBy}
use Rattle.bw_decode.proofs.Held.{index_count, held_share}
use Rattle.bw_decode.proofs.answers.write_share.Goals as goal

pub write_share-requires-clause-place : goal.write_share-requires-clause-place
write_share-requires-clause-place c =
    let scheme = c.args.scheme.now in
    let encoder = c.in-Some.encoder.now in
    let held : IsHeldBy scheme.k scheme.share scheme.n c.args.stripe.now encoder = rw c.in-Some.is at c.requires.held in
    omega (arith, c.from.ensures, c.requires.index, index_count scheme.k scheme.share scheme.n encoder held.own)

pub returns-in-Some : goal.returns-in-Some
returns-in-Some c =
    let scheme = c.args.scheme.now in
    let encoder = c.in-Some.encoder.now in
    let held : IsHeldBy scheme.k scheme.share scheme.n c.args.stripe.now encoder = rw c.in-Some.is at c.requires.held in
    c.write_share.ensures
    ∙ ap (λ place. share_of encoder.k encoder.size encoder.stripe (slice_index encoder.indexes place)) c.from.ensures
    ∙ held_share scheme.k scheme.share scheme.n c.args.stripe.now encoder c.args.index held c.requires.index
