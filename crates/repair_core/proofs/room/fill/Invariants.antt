use Rattle.std.proofs.Common.{◌≡◌, take}
use Rattle.repair_core.specs.Answers.{answers_at}
use Rattle.repair_core.specs.Room.{AreRoomy}
use Rattle.repair_core.proofs.room.fill.Given as goal

abbrev pub invariant-loop-i : goal.invariant-loop-i
invariant-loop-i l = record {
  filled : take l.i l.answers ≡ answers_at l.size l.count l.s (take l.i l.pieces);
  room : AreRoomy l.size l.answers l.spares;
}
