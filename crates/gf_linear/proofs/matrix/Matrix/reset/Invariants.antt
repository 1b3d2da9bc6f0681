use Rattle.std.proofs.Common.{◌≡◌, take, replicate}
use Rattle.gf_linear.proofs.matrix.Matrix.reset.Given as goal

abbrev pub invariant-loop-cell : goal.invariant-loop-cell
invariant-loop-cell l = take l.cell-index l.cell-items ≡ replicate l.cell-index 0
