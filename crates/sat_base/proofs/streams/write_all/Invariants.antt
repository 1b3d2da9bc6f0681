use Rattle.std.proofs.Common.{◌≡◌, ◌≤◌, ◌-◌, length, take}
use Rattle.sat_base.specs.Outside.{KeepsInput, with_end}
use Rattle.sat_base.proofs.streams.write_all.Given as goal

abbrev pub invariant-loop-done : goal.invariant-loop-done
invariant-loop-done g l = record {
  in_range : l.done ≤ length l.bytes;
  written : (g.S.Outside.about l.sink).written ≡ with_end (g.S.Outside.about l.initial.sink).written (take l.done l.bytes);
  faults : (g.S.Outside.about l.sink).write_faults ≡ (g.S.Outside.about l.initial.sink).write_faults;
  input : KeepsInput (g.S.Outside.about l.initial.sink) (g.S.Outside.about l.sink);
}

abbrev pub decreases-loop-done : goal.decreases-loop-done
decreases-loop-done g l = length l.bytes - l.done
