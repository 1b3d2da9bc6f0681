use Rattle.std.proofs.Common.{◌≡◌, length}
use Rattle.repair_core.specs.Room.{AreRoomy}
use Rattle.repair_core.proofs.room.Room.new.Given as goal

abbrev pub invariant-places : goal.invariant-places
invariant-places l = record {
  room : AreRoomy l.size l.answers.items l.spares.items;
  as_many : length l.answers.items ≡ l.counter;
}
