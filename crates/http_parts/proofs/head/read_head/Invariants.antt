use Rattle.std.proofs.Common.{◌≡◌, ◌≤◌, ◌-◌, length, take, false}
use Rattle.sat_base.specs.Streams.{Took}
use Rattle.http_parts.specs.Heads.{MayReadHead, max_head, max_lines}
use Rattle.http_parts.proofs.head.read_head.Given as goal

abbrev pub invariant-loop-spans : goal.invariant-loop-spans
invariant-loop-spans g l = record {
  within : l.got ≤ max_head;
  size : length l.buf ≡ max_head;
  room : length l.headers ≡ max_lines;
  took : Took MayReadHead (take l.got l.buf) 0 false (g.S.Outside.about l.fn.source) (g.S.Outside.about l.source);
}

abbrev pub decreases-loop-spans : goal.decreases-loop-spans
decreases-loop-spans g l = max_head - l.got
