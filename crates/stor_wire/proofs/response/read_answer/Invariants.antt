use Rattle.std.proofs.Common.{◌≡◌, ◌≤◌, ◌-◌, length, take, false}
use Rattle.sat_base.specs.Streams.{Took}
use Rattle.stor_wire.specs.Settlements.{MayReadAnswer, max_answer}
use Rattle.stor_wire.proofs.response.read_answer.Given as goal

abbrev pub invariant-loop-whole : goal.invariant-loop-whole
invariant-loop-whole g l = record {
  within : l.got ≤ max_answer;
  size : length l.buf ≡ max_answer;
  took : Took MayReadAnswer (take l.got l.buf) 0 false (g.S.Outside.about l.fn.source) (g.S.Outside.about l.source);
}

abbrev pub decreases-loop-whole : goal.decreases-loop-whole
decreases-loop-whole g l = max_answer - l.got
