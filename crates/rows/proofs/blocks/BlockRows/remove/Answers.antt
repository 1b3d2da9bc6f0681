use Rattle.std.proofs.Common.{arith}
use Rattle.rows.proofs.Rising.{rising-without}
use Rattle.rows.specs.Blocks.{all_rows}
use Rattle.rows.proofs.blocks.BlockRows.remove.Goals as goal

pub invariant_of-self : goal.invariant_of-self
invariant_of-self g c = record {
  rising = rw c.remove_at.ensures.rows (rising-without g.R.Ranked.rank (all_rows c.self.inside.blocks.items) c.args.k c.self.invariant.rising);
  blocks = c.remove_at.ensures.blocks;
  empty = c.self.invariant.empty;
  ready = λ is.
      let was = c.self.invariant.ready is in
      (was.0, omega (arith, was.1, c.remove_at.ensures.len, c.remove_at.ensures.capacity), omega (arith, was.2));
  counted = omega (arith, c.self.invariant.counted, c.remove_at.ensures.removed);
}

pub returns-clause-rising : goal.returns-clause-rising
returns-clause-rising g c = rw c.remove_at.ensures.rows (rising-without g.R.Ranked.rank (all_rows c.self.inside.blocks.items) c.args.k c.self.invariant.rising)
