use Rattle.std.proofs.Common.{◌∙◌, refl, arith}
use Rattle.repair_core.proofs.Steps.{mended_none, mended_more, first_unclear}
use Rattle.repair_core.proofs.stripes.mend_all.Goals as goal

pub loop-s-init : goal.loop-s-init
loop-s-init c =
    let made = c.args.made.now in
    record {
      made = c.requires.made;
      encoder = c.requires.encoder;
      done = omega arith;
      whole = refl;
      room = c.requires.room;
      places = refl;
      points = refl;
      mended = mended_none c.args.scheme.now.k c.args.scheme.now.share c.args.count c.args.pieces.now made.done made.marks.items made.fresh.items;
    }

pub loop-s-preserved : goal.loop-s-preserved
loop-s-preserved c =
    let before = c.loop-s.invariant in
    let mended = c.mend.ensures in
    let is = c.in-Near.is in
    let first = c.args.made.now in
    let old = c.loop-s.made in
    let new = c.mend.new.made in
    record {
      made = mended.made is;
      encoder = mended.encoder is;
      done = omega (arith, mended.done is, before.done);
      whole = mended.whole ∙ before.whole;
      room = mended.room;
      places = mended.places ∙ before.places;
      points = mended.points ∙ before.points;
      mended = mended_more c.args.scheme.now.k c.args.scheme.now.share c.args.count c.args.pieces.now c.loop-s.s first.done first.marks.items first.fresh.items
          old.marks.items old.fresh.items old.done c.mend.new.room.stripe.items new.marks.items new.fresh.items
          before.mended before.done (mended.near is);
    }

pub returns-in-Unclear-clause-unclear : goal.returns-in-Unclear-clause-unclear
returns-in-Unclear-clause-unclear c =
    let before = c.loop-s.invariant.mended in
    first_unclear c.args.scheme.now.k c.args.scheme.now.share c.args.count c.args.pieces.now c.loop-s.s before.stripes c.loop-s-test.true before.as_many
    before.so_far.near (c.mend.ensures.unclear c.in-Unclear.is)
