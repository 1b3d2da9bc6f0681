use Rattle.std.proofs.Common.{◌≡◌, ◌++◌, ◌∙◌, List, ℕ, refl, ap, subst, arith}
use Rattle.repair_core.specs.Room.{AreKept}
use Rattle.repair_core.proofs.Steps.{kept_none, kept_more, first_unclear}
use Rattle.repair_core.proofs.rebuilding.mend_whole.Goals as goal

pub loop-s-init : goal.loop-s-init
loop-s-init c = record {
  made = c.requires.made;
  encoder = c.requires.encoder;
  done = c.requires.start;
  whole = refl;
  room = c.requires.room;
  places = refl;
  points = refl;
  kept = kept_none c.args.scheme.now.k c.args.scheme.now.share c.args.made.now.whole c.args.pieces.now 0 c.args.made.now.marks.items c.args.made.now.fresh.items c.in-Ok.bytes.items c.in-Ok.ensures;
}

pub loop-s-preserved : goal.loop-s-preserved
loop-s-preserved c =
    let before = c.loop-s.invariant in
    let mended = c.mend.ensures in
    let is = c.in-Near.is in
    let first = c.args.made.now in
    let old = c.loop-s.made in
    let new = c.mend.new.made in
    record {
      made = mended.made is;
      encoder = mended.encoder is;
      done = omega (arith, mended.done is, before.done);
      whole = mended.whole ∙ before.whole;
      room = mended.room;
      places = mended.places ∙ before.places;
      points = mended.points ∙ before.points;
      kept = kept_more c.args.scheme.now.k c.args.scheme.now.share first.whole c.args.pieces.now c.loop-s.s 0 first.marks.items first.fresh.items
          old.marks.items old.fresh.items c.loop-s.bytes.items old.done c.mend.new.room.stripe.items new.marks.items new.fresh.items c.append.new.bytes.items
          before.kept (omega (arith, before.done)) (mended.near is)
          (c.in-Ok-append.ensures ∙ ap (λ (xs : List ℕ). c.loop-s.bytes.items ++ xs) c.as_slice.ensures.value);
    }

pub returns-in-Unclear-clause-refused : goal.returns-in-Unclear-clause-refused
returns-in-Unclear-clause-refused c =
    let before = c.loop-s.invariant.kept.mended in
    first_unclear c.args.scheme.now.k c.args.scheme.now.share c.args.made.now.whole c.args.pieces.now c.loop-s.s before.stripes c.loop-s-test.true before.as_many
    before.so_far.near (c.mend.ensures.unclear c.in-Unclear.is)

pub returns-clause-kept : goal.returns-clause-kept
returns-clause-kept c =
    let all : c.loop-s.s ≡ c.args.made.now.whole = omega arith in
    subst (λ n. AreKept c.args.scheme.now.k c.args.scheme.now.share c.args.made.now.whole c.args.pieces.now n 0 c.args.made.now.marks.items c.args.made.now.fresh.items c.loop-s.made.marks.items c.loop-s.made.fresh.items c.loop-s.bytes.items)
    all c.loop-s.invariant.kept
