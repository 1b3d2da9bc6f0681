use Rattle.std.proofs.Common.{slice_index}
use Rattle.gf_linear.specs.Table.{SameShape, at}
use Rattle.gf_linear.specs.Elimination.{SameKernel, IsReduced}
use Rattle.gf_linear.proofs.elimination.reduce.Given as goal

abbrev pub invariant-loop-col : goal.invariant-loop-col
invariant-loop-col l = record {
  shape : SameShape l.initial.m l.m;
  kernel : SameKernel l.initial.m.rows l.initial.m.cols (at l.initial.m) (at l.m);
  reduced : IsReduced l.initial.m.rows l.rank l.col (at l.m) (slice_index l.marks);
}
