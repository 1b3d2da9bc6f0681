use Rattle.std.proofs.Common.{◌<◌, refl, sym, ap, ◌∙◌, arith, inl, inr, below_more}
use Rattle.gf256.specs.Field.{◌⊕◌, ◌⊗◌}
use Rattle.gf_linear.specs.Table.{at}
use Rattle.gf_linear.proofs.Entries.{SameShape-refl, SameShape-trans}
use Rattle.gf_linear.proofs.elimination.add_row.Goals as goal

pub loop-col-init : goal.loop-col-init
loop-col-init c = record {
  shape = SameShape-refl c.args.m.now;
  added = λ j h. absurd (omega arith);
  later = λ j h l. refl;
  others = λ i j ne l. refl;
}

pub loop-col-preserved : goal.loop-col-preserved
loop-col-preserved c =
    let old = c.args.m.now in
    let to = c.args.to in
    let from = c.args.from in
    let col = c.loop-col.col in
    let v = c.loop-col.invariant in
    let wide = v.shape.cols in
    let in_cols : col < old.cols = omega arith in
    record {
      shape = SameShape-trans v.shape c.set.ensures.shape;
      added = below_more _ _
          (λ j h. c.set.ensures.others to j (omega arith) (inr (omega arith)) ∙ v.added j h)
          (c.set.ensures.here ∙ c.add-sum.ensures
          ∙ ap (λ z. z ⊕ c.mul.result) (c.get.ensures ∙ v.later col (omega arith) in_cols)
          ∙ ap (λ z. at old to col ⊕ z)
          (c.mul.ensures ∙ ap (λ z. c.args.factor ⊗ z)
          (c.get-in-loop-col.ensures ∙ v.others from col (λ e. c.requires.differ (sym e)) in_cols)));
      later = λ j h l. c.set.ensures.others to j (omega arith) (inr (omega arith)) ∙ v.later j (omega arith) l;
      others = λ i j ne l. c.set.ensures.others i j (omega arith) (inl ne) ∙ v.others i j ne l;
    }

pub returns-clause-added : goal.returns-clause-added
returns-clause-added c = record {
  sum = λ j h. c.loop-col.invariant.added j (omega arith);
  others = c.loop-col.invariant.others;
}
