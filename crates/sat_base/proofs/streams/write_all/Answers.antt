use Rattle.std.proofs.Common.{◌-◌, length, drop, ◌∙◌, arith}
use Rattle.std.proofs.lemmas.List.{take_rest, length-take, length-drop}
use Rattle.sat_base.proofs.Transfers.{keeps_input, write_more}
use Rattle.sat_base.proofs.streams.write_all.Goals as goal

pub loop-done-preserved : goal.loop-done-preserved
loop-done-preserved g c = record {
  in_range = omega (arith, c.in-Count.ensures.count.1, length-take (length c.args.bytes.now - c.loop-done.done) (drop c.loop-done.done c.args.bytes.now), length-drop c.loop-done.done c.args.bytes.now);
  written = write_more _ _ _ c.args.bytes.now _ c.loop-done.done c.in-Count.count (take_rest c.args.bytes.now c.loop-done.done) c.loop-done.invariant.written c.in-Count.ensures.written;
  faults = c.in-Count.ensures.faults ∙ c.loop-done.invariant.faults;
  input = keeps_input _ _ _ c.loop-done.invariant.input c.in-Count.ensures.input;
}
