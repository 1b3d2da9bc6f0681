use Rattle.std.proofs.Common.{◌≡◌, ◌+◌, length}
use Rattle.repair_core.specs.Room.{IsRoom, IsMade, IsEncoder, AreMended}
use Rattle.repair_core.proofs.stripes.mend_all.Given as goal

abbrev pub invariant-loop-s : goal.invariant-loop-s
invariant-loop-s l = record {
  made : IsMade l.scheme.share l.scheme.n l.made.whole l.made.done l.made.marks.items l.made.fresh.items;
  encoder : IsEncoder l.scheme.k l.scheme.share l.made.fresh.items l.made.encoder;
  done : l.made.done ≡ l.initial.made.done + l.s;
  whole : l.made.whole ≡ l.initial.made.whole;
  room : IsRoom l.scheme.k l.scheme.share l.room.answers.items l.room.spares.items l.room.stripe.items;
  places : length l.room.answers.items ≡ length l.initial.room.answers.items;
  points : l.scratch.points ≡ l.initial.scratch.points;
  mended : AreMended l.scheme.k l.scheme.share l.count l.pieces l.s l.initial.made.done l.initial.made.marks.items l.initial.made.fresh.items l.made.marks.items l.made.fresh.items;
}
