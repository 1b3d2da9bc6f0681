use Rattle.std.proofs.Common.{◌≡◌, length, None, rules, subst, sym}
use Rattle.segment_core.specs.Places.{IsOffer}
use Rattle.segment_core.specs.Commit.{refusal, chosen}
use Rattle.segment_core.proofs.ByIndex.{filtered_by_index}
use Rattle.segment_core.proofs.Chosen.{length_accepted, enough_accepted}
use Rattle.segment_core.proofs.committing.commit.Goals as goal

pub invariant_of-result : goal.invariant_of-result
invariant_of-result c = rw (c.of.ensures, c.in-Ok.ensures, c.as_slice.ensures) (filtered_by_index _ _ c.segment.invariant)

pub returns-in-Ok-clause-number : goal.returns-in-Ok-clause-number
returns-in-Ok-clause-number c =
    let offered : IsOffer c.args.scheme.now.n c.segment.inside.pieces = subst (λ s. IsOffer c.args.scheme.now.n s.pieces) (sym c.segment.view_is) c.requires.offered in
    let accepted : refusal c.args.scheme.now.n c.args.scheme.now.o c.args.indexes.now ≡ None = search rules in
    rw (c.of.ensures, c.in-Ok.ensures, c.as_slice.ensures) (length_accepted c.args.scheme.now.n c.args.scheme.now.o c.args.indexes.now c.segment.inside.pieces offered accepted)

pub returns-in-Ok-clause-enough : goal.returns-in-Ok-clause-enough
returns-in-Ok-clause-enough c =
    let offered : IsOffer c.args.scheme.now.n c.segment.inside.pieces = subst (λ s. IsOffer c.args.scheme.now.n s.pieces) (sym c.segment.view_is) c.requires.offered in
    let accepted : refusal c.args.scheme.now.n c.args.scheme.now.o c.args.indexes.now ≡ None = search rules in
    let number : length (chosen c.args.indexes.now c.segment.inside.pieces) ≡ length c.args.indexes.now = length_accepted c.args.scheme.now.n c.args.scheme.now.o c.args.indexes.now c.segment.inside.pieces offered accepted in
    rw (c.of.ensures, c.in-Ok.ensures, c.as_slice.ensures, number) (enough_accepted c.args.scheme.now.n c.args.scheme.now.o c.args.indexes.now accepted)
