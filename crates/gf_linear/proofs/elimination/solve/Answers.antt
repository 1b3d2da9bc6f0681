use Rattle.std.proofs.Common.{suc, ◌≡◌, ◌≢◌, ◌-◌, subst, length, arith, slice_index}
use Rattle.gf_linear.specs.Table.{at}
use Rattle.gf_linear.specs.System.{IsSolution, IsFree}
use Rattle.gf_linear.specs.Elimination.{SameKernel}
use Rattle.gf_linear.proofs.Kernel.{kernel_sym, solution_kept, zero_kept}
use Rattle.gf_linear.proofs.ReducedForm.{solution_read_off, no_solution, free_is_zero}
use Rattle.gf_linear.proofs.elimination.solve.Goals as goal

pub returns-in-Some-clause-none : goal.returns-in-Some-clause-none
returns-in-Some-clause-none c = λ e x s.
    let u = length c.reduce-rank.new.marks in
    let m = c.args.m.now in
    let old = at m in
    let new = at c.reduce-rank.new.m in
    let wide : m.cols ≡ suc u = omega arith in
    let last : c.cols-right_side.result - 1 ≡ u = omega arith in
    let first = c.in-Some.ensures.found in
    let tall = c.reduce-rank.ensures.shape.rows in
    no_solution m.rows c.reduce-rank.result u new (slice_index c.reduce-rank.new.marks) c.reduce-rank.ensures.reduced
    c.in-Some.field-0 first.from_rank (omega (arith, first.within))
    (subst (λ k. new c.in-Some.field-0 k ≢ 0) last first.found) x
    (solution_kept m.rows u old new (λ i. c.cols-right_side.ensures.table.bytes i u) (λ i. c.in-Some.ensures.table.bytes i u)
    (subst (λ k. SameKernel m.rows k old new) wide c.reduce-rank.ensures.kernel) x s)

pub returns-in-None-clause-one : goal.returns-in-None-clause-one
returns-in-None-clause-one c = λ e.
    let u = length c.reduce-rank.new.marks in
    let m = c.args.m.now in
    let old = at m in
    let new = at c.reduce-rank.new.m in
    let x = slice_index c.read_off.new.marks in
    let wide : m.cols ≡ suc u = omega arith in
    let last : c.cols-right_side.result - 1 ≡ u = omega arith in
    let same : u ≡ length c.read_off.new.marks = omega arith in
    let tall = c.reduce-rank.ensures.shape.rows in
    let read : IsSolution m.rows u new x =
    solution_read_off m.rows c.reduce-rank.result u new (slice_index c.reduce-rank.new.marks) x c.reduce-rank.ensures.reduced
    c.in-None.ensures.table.bytes c.read_off.ensures
    (λ i a b. subst (λ k. new i k ≡ 0) last (c.in-None.ensures.none i a (omega arith))) in
    subst (λ k. IsSolution m.rows k old x) same
    (solution_kept m.rows u new old (λ i. c.in-None.ensures.table.bytes i u) (λ i. c.cols-right_side.ensures.table.bytes i u)
    (kernel_sym (subst (λ k. SameKernel m.rows k old new) wide c.reduce-rank.ensures.kernel)) x read)

pub returns-in-None-clause-free : goal.returns-in-None-clause-free
returns-in-None-clause-free c = λ e j h f.
    let u = length c.reduce-rank.new.marks in
    let m = c.args.m.now in
    let old = at m in
    let new = at c.reduce-rank.new.m in
    let wide : m.cols ≡ suc u = omega arith in
    let same : length c.read_off.new.marks ≡ u = omega arith in
    let free : IsFree m.rows u old j = subst (λ n. IsFree m.rows n old j) same f in
    free_is_zero m.rows c.reduce-rank.result u new (slice_index c.reduce-rank.new.marks) (slice_index c.read_off.new.marks) free.0
    c.reduce-rank.ensures.reduced c.in-None.ensures.table.bytes c.read_off.ensures
    (zero_kept m.rows u old new (subst (λ k. SameKernel m.rows k old new) wide c.reduce-rank.ensures.kernel) free.0 free.1)
    j (omega arith) free.4 free.2 free.3
