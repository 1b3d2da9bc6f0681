use Rattle.std.proofs.Common.{ℕ, suc, ◌≡◌, ◌≢◌, ◌<◌, ◌+◌, ◌-◌, sym, ap, ◌∙◌, arith, length, ◌⊎◌, inl, inr, slice_index, slice_set, get_or-set_same, get_or-set_other}
use Rattle.std.proofs.lemmas.Bool.{cases_eq}
use Rattle.gf256.specs.Field.{◌⊗◌, inverse}
use Rattle.gf_linear.specs.Table.{at}
use Rattle.gf_linear.proofs.elimination.read_off.Goals as goal
use Rattle.gf_linear.proofs.elimination.read_off.Goals.{Else-mark-eq0}

-- the mark of this column is not 0, so that it names the row of its pivot
pivot_here : (c : Else-mark-eq0)
    → (slice_index c.loop-col.marks c.loop-col.col - 1 < c.args.m.now.rows)
    × (at c.args.m.now (slice_index c.loop-col.marks c.loop-col.col - 1) c.loop-col.col ≢ 0)
pivot_here c =
    let mark = slice_index c.loop-col.marks c.loop-col.col in
    let e : mark ≡ suc (mark - 1) = omega arith in
    c.requires.pivots c.loop-col.col (mark - 1) (omega arith)
    (sym (c.loop-col.invariant.later c.loop-col.col (omega arith)) ∙ e)

pub loop-col-preserved-then-mark-eq0 : goal.loop-col-preserved-then-mark-eq0
loop-col-preserved-then-mark-eq0 c = record {
  free = λ j h z. free j h z (cases_eq j c.loop-col.col);
  bound = λ j r h e. bound j r h e (cases_eq j c.loop-col.col);
  later = λ j h. c.loop-col.invariant.later j (omega arith);
}
  where
    old : ℕ → ℕ
    old = slice_index c.args.marks.now

    now : ℕ → ℕ
    now = slice_index c.loop-col.marks

    same : now c.loop-col.col ≡ old c.loop-col.col
    same = c.loop-col.invariant.later c.loop-col.col (omega arith)

    free : (j : ℕ) → j < c.loop-col.col + 1 → old j ≡ 0
        → (j ≡ c.loop-col.col) ⊎ (j ≢ c.loop-col.col) → now j ≡ 0
    free j h z (inl e) = ap now e ∙ c.if-mark-eq0.true
    free j h z (inr ne) = c.loop-col.invariant.free j (omega arith) z

    bound : (j r : ℕ) → j < c.loop-col.col + 1 → old j ≡ suc r
        → (j ≡ c.loop-col.col) ⊎ (j ≢ c.loop-col.col)
        → now j ≡ at c.args.m.now r (c.cols-right_side.result - 1) ⊗ inverse (at c.args.m.now r j)
    bound j r h e (inl q) =
        let z : suc r ≡ 0 = sym e ∙ ap old q ∙ sym same ∙ c.if-mark-eq0.true in
        absurd (omega arith)
    bound j r h e (inr ne) = c.loop-col.invariant.bound j r (omega arith) e

pub get-requires : goal.get-requires
get-requires c = record { place = ((pivot_here c).0, omega arith) }

pub inv-scale-requires : goal.inv-scale-requires
inv-scale-requires c =
    let pivot = pivot_here (goal.at.inv-scale-requires c).Else-mark-eq0 in
    λ e. pivot.1 (sym c.get.ensures ∙ e)

pub get-requires-in-loop-col : goal.get-requires-in-loop-col
get-requires-in-loop-col c =
    let pivot = pivot_here (goal.at.get-requires-in-loop-col c).Else-mark-eq0 in
    record { place = (pivot.0, omega arith) }

pub loop-col-preserved : goal.loop-col-preserved
loop-col-preserved c = record {
  free = λ j h z. free j h z (cases_eq j c.loop-col.col);
  bound = λ j r h e. bound j r h e (cases_eq j c.loop-col.col);
  later = λ j h. other j (omega arith) ∙ c.loop-col.invariant.later j (omega arith);
}
  where
    old : ℕ → ℕ
    old = slice_index c.args.marks.now

    new : ℕ → ℕ
    new = slice_index (slice_set c.loop-col.marks c.loop-col.col c.mul.result)

    other : (j : ℕ) → j ≢ c.loop-col.col → new j ≡ slice_index c.loop-col.marks j
    other j ne = get_or-set_other c.loop-col.marks c.loop-col.col j c.mul.result 0 ne

    here : new c.loop-col.col ≡ c.mul.result
    here = get_or-set_same c.loop-col.marks c.loop-col.col c.mul.result 0 (omega arith)

    same : slice_index c.loop-col.marks c.loop-col.col ≡ old c.loop-col.col
    same = c.loop-col.invariant.later c.loop-col.col (omega arith)

    free : (j : ℕ) → j < c.loop-col.col + 1 → old j ≡ 0
        → (j ≡ c.loop-col.col) ⊎ (j ≢ c.loop-col.col) → new j ≡ 0
    free j h z (inl e) = absurd (c.if-mark-eq0.false (same ∙ ap old (sym e) ∙ z))
    free j h z (inr ne) = other j ne ∙ c.loop-col.invariant.free j (omega arith) z

    bound : (j r : ℕ) → j < c.loop-col.col + 1 → old j ≡ suc r
        → (j ≡ c.loop-col.col) ⊎ (j ≢ c.loop-col.col)
        → new j ≡ at c.args.m.now r (c.cols-right_side.result - 1) ⊗ inverse (at c.args.m.now r j)
    bound j r h e (inl q) =
        let mark = slice_index c.loop-col.marks c.loop-col.col in
        let is_r : mark ≡ suc r = same ∙ ap old (sym q) ∙ e in
        let row : mark - 1 ≡ r = omega arith in
        let right = c.cols-right_side.result - 1 in
        let entry = at c.args.m.now in
        ap new q ∙ here ∙ c.mul.ensures
        ∙ ap (λ z. z ⊗ c.inv-scale.result) c.get-in-loop-col.ensures
        ∙ ap (λ z. entry (mark - 1) right ⊗ z) (c.inv-scale.ensures.value ∙ ap inverse c.get.ensures)
        ∙ ap (λ i. entry i right ⊗ inverse (entry i c.loop-col.col)) row
        ∙ ap (λ k. entry r right ⊗ inverse (entry r k)) (sym q)
    bound j r h e (inr ne) = other j ne ∙ c.loop-col.invariant.bound j r (omega arith) e

pub returns : goal.returns
returns c =
    let last : c.cols-right_side.result - 1 ≡ length c.args.marks.now = omega arith in
    record {
      free = λ j h z. c.loop-col.invariant.free j (omega arith) z;
      bound = λ j r h e.
          c.loop-col.invariant.bound j r (omega arith) e
          ∙ ap (λ k. at c.args.m.now r k ⊗ inverse (at c.args.m.now r j)) last;
    }
