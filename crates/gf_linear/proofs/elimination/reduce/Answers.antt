use Rattle.std.proofs.Common.{suc, ◌≡◌, ◌≢◌, ◌<◌, ◌+◌, ◌∙◌, subst, length, arith, slice_index, slice_set, add-one, get_or-set_same, get_or-set_other}
use Rattle.gf_linear.specs.Table.{at}
use Rattle.gf_linear.specs.Elimination.{SameKernel, IsReduced, IsPivotRaised, IsEliminated}
use Rattle.gf_linear.proofs.Entries.{SameShape-refl, SameShape-trans}
use Rattle.gf_linear.proofs.Kernel.{kernel_refl, kernel_trans}
use Rattle.gf_linear.proofs.ReducedForm.{reduced_none, reduced_skip, raised_pivot, reduced_raised, reduced_eliminated}
use Rattle.gf_linear.proofs.elimination.reduce.Goals as goal

pub loop-col-init : goal.loop-col-init
loop-col-init c = record {
  shape = SameShape-refl c.args.m.now;
  kernel = kernel_refl c.args.m.now.rows c.args.m.now.cols (at c.args.m.now);
  reduced = reduced_none c.args.m.now.rows (at c.args.m.now) (slice_index c.args.marks.now);
}

pub find_pivot-requires : goal.find_pivot-requires
find_pivot-requires c =
    let v = c.loop-col.invariant in
    let low = v.reduced.low in
    let rows = v.shape.rows in
    let cols = v.shape.cols in
    record { place = (omega arith, omega arith) }

pub loop-col-preserved-in_default : goal.loop-col-preserved-in_default
loop-col-preserved-in_default c =
    let v = c.loop-col.invariant in
    let rows = v.shape.rows in
    let col = c.loop-col.col in
    let marks = c.loop-col.marks in
    let more : suc col ≡ col + 1 = omega arith in
    let in_marks : col < length marks = omega arith in
    let new = slice_index (slice_set marks col 0) in
    record {
      shape = v.shape;
      kernel = v.kernel;
      reduced =
          subst (λ k. IsReduced c.args.m.now.rows c.loop-col.rank k (at c.loop-col.m) new) more
          (reduced_skip c.args.m.now.rows c.loop-col.rank col (at c.loop-col.m) (slice_index marks) new v.reduced
          (λ i a b. c.in_default.ensures.none i a (omega arith))
          (λ j h. let ne : j ≢ col = omega arith in get_or-set_other marks col j 0 0 ne)
          (get_or-set_same marks col 0 0 in_marks));
    }

pub eliminate-requires-clause-place : goal.eliminate-requires-clause-place
eliminate-requires-clause-place c =
    let v = c.loop-col.invariant in
    let cols = v.shape.cols in
    let first = c.in-Some.ensures.found in
    let raised = c.raise_pivot.ensures.shape in
    (omega (arith, first.from_rank, first.within, raised.rows), omega (arith, raised.cols))

pub eliminate-requires-clause-pivot : goal.eliminate-requires-clause-pivot
eliminate-requires-clause-pivot c =
    let m = c.loop-col.m in
    let wide = c.loop-col.invariant.shape.cols in
    let first = c.in-Some.ensures.found in
    raised_pivot m.cols (at m) (at c.raise_pivot.new.m) c.loop-col.rank c.in-Some.pivot c.loop-col.col
    c.raise_pivot.ensures.raised (omega arith) first.from_rank first.zeros
    (c.in-Some.ensures.table.bytes c.in-Some.pivot c.loop-col.col) first.found

pub loop-col-preserved : goal.loop-col-preserved
loop-col-preserved c =
    let v = c.loop-col.invariant in
    let rows = c.args.m.now.rows in
    let cols = c.args.m.now.cols in
    let rank = c.loop-col.rank in
    let col = c.loop-col.col in
    let marks = c.loop-col.marks in
    let pivot = c.in-Some.pivot in
    let old = at c.loop-col.m in
    let mid = at c.raise_pivot.new.m in
    let new = at c.eliminate.new.m in
    let after = slice_index (slice_set marks col (rank + 1)) in
    let first = c.in-Some.ensures.found in
    let tall = v.shape.rows in
    let wide = v.shape.cols in
    let shape = SameShape-trans v.shape c.raise_pivot.ensures.shape in
    let more : suc col ≡ col + 1 = omega arith in
    let more_rank : suc rank ≡ rank + 1 = omega arith in
    let in_marks : col < length marks = omega arith in
    let in_cols : col < cols = omega arith in
    let in_rows : pivot < rows = omega (arith, first.within) in
    let raised : IsPivotRaised cols old mid rank pivot =
    subst (λ n. IsPivotRaised n old mid rank pivot) wide c.raise_pivot.ensures.raised in
    let raised_kernel : SameKernel rows cols old mid =
    subst (λ n. SameKernel rows n old mid) wide
    (subst (λ n. SameKernel n c.loop-col.m.cols old mid) tall c.raise_pivot.ensures.kernel) in
    let eliminated : IsEliminated rows cols mid new rank col =
    subst (λ n. IsEliminated rows n mid new rank col) shape.cols
    (subst (λ n. IsEliminated n c.raise_pivot.new.m.cols mid new rank col) shape.rows c.eliminate.ensures.eliminated) in
    let eliminated_kernel : SameKernel rows cols mid new =
    subst (λ n. SameKernel rows n mid new) shape.cols
    (subst (λ n. SameKernel n c.raise_pivot.new.m.cols mid new) shape.rows c.eliminate.ensures.kernel) in
    let not_zero : mid rank col ≢ 0 =
    raised_pivot cols old mid rank pivot col raised in_cols first.from_rank first.zeros
    (c.in-Some.ensures.table.bytes pivot col) first.found in
    record {
      shape = SameShape-trans shape c.eliminate.ensures.shape;
      kernel = kernel_trans v.kernel (kernel_trans raised_kernel eliminated_kernel);
      reduced = subst (λ k. IsReduced rows k (col + 1) new after) more_rank
          (subst (λ k. IsReduced rows (suc rank) k new after) more
          (reduced_eliminated rows cols rank col mid new (slice_index marks) after
          (reduced_raised rows cols rank pivot col old mid (slice_index marks) v.reduced raised
          (omega arith) first.from_rank in_rows)
          (omega (arith, first.from_rank)) not_zero (λ i. c.eliminate.ensures.table.bytes i col) eliminated in_cols
          (λ j h. let ne : j ≢ col = omega arith in get_or-set_other marks col j (rank + 1) 0 ne)
          (get_or-set_same marks col (rank + 1) 0 in_marks ∙ add-one rank)));
    }

pub returns-clause-reduced : goal.returns-clause-reduced
returns-clause-reduced c =
    let end : c.loop-col.col ≡ length c.loop-col.marks = omega arith in
    subst (λ k. IsReduced c.args.m.now.rows c.loop-col.rank k (at c.loop-col.m) (slice_index c.loop-col.marks)) end
    c.loop-col.invariant.reduced
