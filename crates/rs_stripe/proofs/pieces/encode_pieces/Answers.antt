use Rattle.std.proofs.Common.{◌≡◌, ◌*◌, ℕ, List, ◌∙◌, refl, subst, length, arith}
use Rattle.std.proofs.lemmas.List.{take_at}
use Rattle.sat_base.specs.Scheme.{stripe_count}
use Rattle.rs_stripe.specs.Pieces.{AreWritten}
use Rattle.rs_stripe.proofs.ManyPieces.{pieces_written}
use Rattle.rs_stripe.proofs.pieces.encode_pieces.Goals as goal

pub returns : goal.returns
returns c =
    let scheme = c.args.scheme.now in
    let segment = c.args.segment.now in
    let stripes = stripe_count scheme.k scheme.share (length segment) in
    let new = c.write_stripes.new.pieces in
    let whole : length new ≡ c.in_ok-pieces.pieces.len = omega (arith, c.write_stripes.auto.pieces, c.as_mut_slice.ensures.len) in
    take_at new _ c.in_ok-pieces.pieces.len whole
    ∙ pieces_written scheme.k scheme.share segment c.args.indexes.now stripes new
    (subst (λ (indexes : List ℕ). AreWritten scheme.k scheme.share segment indexes (stripes * scheme.share) stripes new)
    c.in_ok-encoder.ensures.indexes c.write_stripes.ensures)
    refl
