use Rattle.std.proofs.Common.{ℕ, ◌≡◌, ◌≢◌, ◌<◌, ◌+◌, refl, sym, ap, ◌∙◌, subst, arith, ◌⊎◌, inl, inr}
use Rattle.std.proofs.lemmas.Bool.{cases_eq}
use Rattle.gf256.specs.Field.{◌⊕◌, ◌⊗◌, inverse}
use Rattle.gf_linear.specs.Table.{Table, at}
use Rattle.gf_linear.specs.Elimination.{RowAdded}
use Rattle.gf_linear.proofs.Entries.{SameShape-refl, SameShape-trans}
use Rattle.gf_linear.proofs.Kernel.{kernel_refl, kernel_added, kernel_trans}
use Rattle.gf_linear.proofs.elimination.eliminate.Goals as goal

pub inv-scale-requires : goal.inv-scale-requires
inv-scale-requires c = λ e. c.requires.pivot (sym c.get.ensures ∙ e)

pub loop-other-init : goal.loop-other-init
loop-other-init c = record {
  shape = SameShape-refl c.args.m.now;
  eliminated = λ i j h ne l. absurd (omega arith);
  later = λ i j h l. refl;
  own = λ j l. refl;
  kernel = kernel_refl c.args.m.now.rows c.args.m.now.cols (at c.args.m.now);
}

pub loop-other-preserved-then-other-row : goal.loop-other-preserved-then-other-row
loop-other-preserved-then-other-row c =
    let v = c.loop-other.invariant in
    record {
      shape = v.shape;
      eliminated = λ i j h ne l.
          let other : i ≢ c.loop-other.other = λ e. ne (e ∙ c.if-other-row.true) in
          v.eliminated i j (omega arith) ne l;
      later = λ i j h l. v.later i j (omega arith) l;
      own = v.own;
      kernel = v.kernel;
    }

pub loop-other-preserved : goal.loop-other-preserved
loop-other-preserved c =
    let v = c.loop-other.invariant in
    record {
      shape = SameShape-trans v.shape c.add_row.ensures.shape;
      eliminated = λ i j h ne l. eliminated i j h ne l (cases_eq i other);
      later = λ i j h l. added.others i j (omega arith) l ∙ v.later i j (omega arith) l;
      own = λ j l. added.others row j (λ e. c.if-other-row.false (sym e)) l ∙ v.own j l;
      kernel = kernel_trans v.kernel
          (kernel_added old.rows old.cols (at c.loop-other.m) (at new) other row c.mul-factor.result added
          c.requires.place.0 c.if-other-row.false);
    }
  where
    old : Table
    old = c.args.m.now

    new : Table
    new = c.add_row.new.m

    other : ℕ
    other = c.loop-other.other

    row : ℕ
    row = c.args.row

    added : RowAdded old.cols (at c.loop-other.m) (at new) other row c.mul-factor.result
    added =
        subst (λ cols. RowAdded cols (at c.loop-other.m) (at new) other row c.mul-factor.result)
        c.loop-other.invariant.shape.cols c.add_row.ensures.added

    eliminated : (i j : ℕ) → i < other + 1 → i ≢ row → j < old.cols → (i ≡ other) ⊎ (i ≢ other)
        → at new i j ≡ at old i j ⊕ (at old i c.args.col ⊗ c.inv-scale.result) ⊗ at old row j
    eliminated i j h ne l (inl e) =
        let v = c.loop-other.invariant in
        let factor : c.mul-factor.result ≡ at old other c.args.col ⊗ c.inv-scale.result =
        c.mul-factor.ensures
        ∙ ap (λ z. z ⊗ c.inv-scale.result)
        (c.get-in-loop-other.ensures ∙ v.later other c.args.col (omega arith) c.requires.place.1) in
        subst (λ k. at new k j ≡ at old k j ⊕ (at old k c.args.col ⊗ c.inv-scale.result) ⊗ at old row j) (sym e)
        (added.sum j l
        ∙ ap (λ z. z ⊕ c.mul-factor.result ⊗ at c.loop-other.m row j) (v.later other j (omega arith) l)
        ∙ ap (λ z. at old other j ⊕ z ⊗ at c.loop-other.m row j) factor
        ∙ ap (λ z. at old other j ⊕ (at old other c.args.col ⊗ c.inv-scale.result) ⊗ z) (v.own j l))
    eliminated i j h ne l (inr d) =
        added.others i j d l ∙ c.loop-other.invariant.eliminated i j (omega arith) ne l

pub returns-clause-eliminated : goal.returns-clause-eliminated
returns-clause-eliminated c =
    let old = c.args.m.now in
    let row = c.args.row in
    let scale : c.inv-scale.result ≡ inverse (at old row c.args.col) = c.inv-scale.ensures.value ∙ ap inverse c.get.ensures in
    record {
      own = c.loop-other.invariant.own;
      eliminated = λ i j h ne l.
          c.loop-other.invariant.eliminated i j (omega arith) ne l
          ∙ ap (λ z. at old i j ⊕ (at old i c.args.col ⊗ z) ⊗ at old row j) scale;
    }
