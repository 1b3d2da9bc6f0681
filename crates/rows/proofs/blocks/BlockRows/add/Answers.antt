use Rattle.std.proofs.Common.{◌≡◌, None, true, false, ap, arith}
use Rattle.rows.specs.Rows.{row_at}
use Rattle.rows.proofs.Rising.{rising-added}
use Rattle.rows.proofs.Lengths.{length-added}
use Rattle.rows.specs.Blocks.{all_rows}
use Rattle.rows.proofs.blocks.BlockRows.add.Goals as goal

pub invariant_of-self-2 : goal.invariant_of-self-2
invariant_of-self-2 g c =
    let rows_is : all_rows c.self.inside.blocks.items ≡ c.args.self.now.rows = ap (λ v. v.rows) c.self.view_is in
    let absent : row_at g.R.Ranked.rank (all_rows c.self.inside.blocks.items) (g.R.Ranked.rank c.args.row) ≡ None = rw rows_is c.requires.absent in
    record {
      rising = rw c.add_at.ensures.rows (rising-added g.R.Ranked.rank c.args.row (all_rows c.self.inside.blocks.items) absent c.self.invariant.rising);
      blocks = c.add_at.ensures.blocks;
      empty = c.add_at.ensures.empty;
      ready = λ no. let never : false ≡ true = no in cc;
      counted = rw c.add_at.ensures.rows (omega (arith, c.self.invariant.counted, length-added g.R.Ranked.rank c.args.row (all_rows c.self.inside.blocks.items)));
    }

pub returns-clause-rising : goal.returns-clause-rising
returns-clause-rising g c =
    let rows_is : all_rows c.self.inside.blocks.items ≡ c.args.self.now.rows = ap (λ v. v.rows) c.self.view_is in
    let absent : row_at g.R.Ranked.rank (all_rows c.self.inside.blocks.items) (g.R.Ranked.rank c.args.row) ≡ None = rw rows_is c.requires.absent in
    rw c.add_at.ensures.rows (rising-added g.R.Ranked.rank c.args.row (all_rows c.self.inside.blocks.items) absent c.self.invariant.rising)
