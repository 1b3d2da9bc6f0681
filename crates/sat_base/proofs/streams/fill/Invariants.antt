use Rattle.std.proofs.Common.{◌≡◌, ◌≤◌, ◌-◌, length, take, slice_range, false}
use Rattle.sat_base.specs.Streams.{FillsUp, Took}
use Rattle.sat_base.proofs.streams.fill.Given as goal

abbrev pub invariant-loop-len : goal.invariant-loop-len
invariant-loop-len g l = record {
  least : l.from ≤ l.len;
  most : l.len ≤ length l.buf;
  size : length l.buf ≡ length l.fn.buf;
  kept : take l.from l.buf ≡ take l.from l.fn.buf;
  took : Took (FillsUp (length l.fn.buf - l.from)) (slice_range l.buf l.from l.len) 0 false (g.S.Outside.about l.fn.source) (g.S.Outside.about l.source);
}

abbrev pub decreases-loop-len : goal.decreases-loop-len
decreases-loop-len g l = length l.buf - l.len
