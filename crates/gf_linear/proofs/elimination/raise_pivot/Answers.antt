use Rattle.std.proofs.Common.{sym, arith}
use Rattle.gf_linear.specs.Table.{at}
use Rattle.gf_linear.proofs.Kernel.{kernel_added}
use Rattle.gf_linear.proofs.elimination.raise_pivot.Goals as goal

pub returns-then-pivot-rank-clause-kernel : goal.returns-then-pivot-rank-clause-kernel
returns-then-pivot-rank-clause-kernel c =
    kernel_added c.args.m.now.rows c.args.m.now.cols (at c.args.m.now) (at c.add_row.new.m)
    c.args.rank c.args.pivot 1 c.add_row.ensures.added (omega arith) (λ e. c.if-pivot-rank.true (sym e))
