use Rattle.std.proofs.Common.{◌≡◌, length, take}
use Rattle.sat_base.specs.Outside.{with_front}
use Rattle.sat_sessions.proofs.listening.draw.Given as goal

-- the words so far stand at the front of the room
abbrev pub invariant-loop-i : goal.invariant-loop-i
invariant-loop-i g l = record {
  left : g.W.Words.left l.fn.words ≡ with_front (take l.i l.room) (g.W.Words.left l.words);
  size : length l.room ≡ length l.fn.room;
  faults : g.W.Words.faults l.words ≡ g.W.Words.faults l.fn.words;
}
