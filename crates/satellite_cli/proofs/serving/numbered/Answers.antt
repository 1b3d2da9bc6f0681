use Rattle.std.proofs.Common.{◌+◌, ap, ◌∙◌, arith, ℕ}
use Rattle.desk_runs.proofs.Counting.{rises_apart}
use Rattle.satellite_cli.proofs.Idle.{rises_next}
use Rattle.satellite_cli.proofs.serving.numbered.Goals as goal

pub loop-number-preserved : goal.loop-number-preserved
loop-number-preserved c = record {
  count = c.push_reserved.ensures.len ∙ ap (λ (n : ℕ). n + 1) c.loop-number.invariant.count;
  room = c.push_reserved.ensures.capacity ∙ c.loop-number.invariant.room;
  rises = rw c.push_reserved.ensures.items (rises_next 0 _ (c.loop-number.number + 1) c.loop-number.invariant.rises (omega arith));
}

pub returns-clause-apart : goal.returns-clause-apart
returns-clause-apart c = rises_apart 0 _ _ c.loop-number.invariant.rises
