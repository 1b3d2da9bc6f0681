use Rattle.std.proofs.Common.{ap, ◌∙◌}
use Rattle.std.specs.List.{range_with_len}
use Rattle.bw_decode.specs.Room.{IsEncoderOf}
use Rattle.bw_decode.proofs.Held.{held_now, same_numbers}
use Rattle.bw_decode.proofs.scratch.Scratch.find_disagreement.Goals as goal

pub find_disagreement-requires-2-clause-held : goal.find_disagreement-requires-2-clause-held
find_disagreement-requires-2-clause-held c =
    let scheme = c.args.scheme.now in
    let made = c.self.inside.scheme in
    let before = c.self.inside.encoder in
    let same = same_numbers made.k scheme.k made.m scheme.m made.o scheme.o made.n scheme.n made.share scheme.share c.if-ne.ensures in
    let own : IsEncoderOf scheme.k scheme.share scheme.n before
    = record {
      k_is = c.self.invariant.1.k_is ∙ same.0;
      size_is = c.self.invariant.1.size_is ∙ same.2;
      indexes_are = c.self.invariant.1.indexes_are ∙ ap (range_with_len 0) same.1;
    }
    in
    held_now scheme.k scheme.share scheme.n c.args.stripe.now before c.hold.new.self own c.requires.stripe
    c.hold.ensures.k c.hold.ensures.size c.hold.ensures.indexes c.hold.ensures.stripe
