use Rattle.std.proofs.Common.{◌≡◌, ◌<◌, ◌==◌, ◌||◌, List, [], Bool, false, length, get_or, take, ap, sym, ◌∙◌, arith, slice_index_or}
use Rattle.std.specs.Prelude.{filter}
use Rattle.std.proofs.lemmas.List.{take_all}
use Rattle.sat_base.specs.declared.items.Share.{Share}
use Rattle.bw_decode.specs.Altered.{indexes_of}
use Rattle.repair_core.specs.Indexes.{has_index}
use Rattle.repair_core.proofs.Marks.{or_assoc, index_below, has_more_marked, has_more_unmarked, set_mark}
use Rattle.repair_core.proofs.making.mark.Goals as goal
use Rattle.repair_core.proofs.making.mark.Goals.{then-altered-i, else-altered-i}

pub bounds-marks-from : goal.bounds-marks-from
bounds-marks-from c =
    let within : c.loop-i.i < length c.args.answers.now = omega (arith, c.requires.altered, c.loop-i-test.true) in
    let below = index_below (length c.args.marks.now) c.args.answers.now c.loop-i.i c.index-answers-i.result within c.requires.below in
    let is : c.index-answers-i.result.index ≡ (get_or c.args.answers.now c.loop-i.i c.index-answers-i.result).index
    = ap (λ (a : Share). a.index) c.index-answers-i.is in
    omega (arith, below, is, c.from.ensures, c.loop-i.auto.marks)

pub loop-i-preserved : goal.loop-i-preserved
loop-i-preserved c = λ test are index.
    let answers = c.args.answers.now in
    let i = c.loop-i.i in
    let before = c.loop-i.invariant test are index in
    let within : i < length answers = omega (arith, c.requires.altered, c.loop-i-test.true) in
    elim c.if-altered-i.branch [
      | then-altered-i w ↦
          let d = w.index-answers-i.result in
          let own : w.from.result ≡ (get_or answers i d).index = omega (arith, w.from.ensures, ap (λ (a : Share). a.index) w.index-answers-i.is) in
          let below = index_below (length c.args.marks.now) answers i d within c.requires.below in
          let fits : w.from.result < length c.loop-i.marks = omega (arith, below, own, c.loop-i.auto.marks) in
          ap (λ (marks : List Bool). slice_index_or marks index false) w.marks-is
          ∙ set_mark c.loop-i.marks w.from.result index fits
          ∙ ap (λ b. b || (w.from.result == index)) before
          ∙ or_assoc (slice_index_or c.args.marks.now index false) (has_index (indexes_of (filter test (take i answers))) index) (w.from.result == index)
          ∙ ap (λ n. slice_index_or c.args.marks.now index false || (has_index (indexes_of (filter test (take i answers))) index || (n == index))) own
          ∙ ap (λ b. slice_index_or c.args.marks.now index false || b) (sym (has_more_marked test answers c.args.altered.now i d index within are w.if-altered-i.true))
      | else-altered-i w ↦
          let d : Share = record { index = 0; bytes = [] } in
          ap (λ (marks : List Bool). slice_index_or marks index false) w.marks-is
          ∙ before
          ∙ ap (λ b. slice_index_or c.args.marks.now index false || b) (sym (has_more_unmarked test answers c.args.altered.now i d index within are w.if-altered-i.false))
    ]

pub returns : goal.returns
returns c = λ test are index.
    let long : length c.args.answers.now ≡ c.loop-i.i = omega (arith, c.requires.altered, c.loop-i-test.false, c.loop-i.auto.i-end) in
    c.loop-i.invariant test are index
    ∙ ap (λ (answers : List Share). slice_index_or c.args.marks.now index false || has_index (indexes_of (filter test answers)) index)
    (take_all c.loop-i.i c.args.answers.now (omega (arith, long)))
