use Rattle.std.proofs.Common.{rules, ◌≡◌, ℕ, ◌≤◌, ◌-◌, List, [], length, take, drop, arith, refl, sym, ◌∙◌, ap, subst}
use Rattle.std.proofs.lemmas.List.{length-drop, length-take}
use Rattle.std.proofs.lemmas.Slice.{take-put_mid_below}
use borrow.Rule.Slice.PartMut.{put_mid}
use Rattle.sat_base.specs.Outside.{with_front}
use Rattle.sat_base.specs.declared.outside.Taken.TheVariants as takes
use Rattle.sat_base.proofs.Transfers.{took_none}
use Rattle.stor_wire.specs.Settlements.{LacksAnswer, MayReadAnswer}
use Rattle.stor_wire.proofs.AnswerLemmas.{hear_idle, hear_more}
use Rattle.stor_wire.proofs.response.read_answer.Goals as goal

pub loop-whole-init : goal.loop-whole-init
loop-whole-init g c = record { within = omega arith; size = c.requires; took = took_none MayReadAnswer (g.S.Outside.about c.args.source.now) }

pub loop-whole-preserved : goal.loop-whole-preserved
loop-whole-preserved g c =
    let e = c.in-Count.ensures in
    let about = g.S.Outside.about in
    let asked = length (take (length c.loop-whole.buf - c.loop-whole.got) (drop c.loop-whole.got c.loop-whole.buf)) in
    let is : asked ≡ length c.loop-whole.buf - c.loop-whole.got = omega (arith, length-take (length c.loop-whole.buf - c.loop-whole.got) (drop c.loop-whole.got c.loop-whole.buf), length-drop c.loop-whole.got c.loop-whole.buf) in
    let fits : c.in-Count.count ≤ length c.loop-whole.buf - c.loop-whole.got = omega (arith, e.count) in
    record {
      within = omega arith;
      size = search rules;
      took = hear_more c.loop-whole.buf c.read.new.buf c.loop-whole.got _ asked c.in-Count.count (about c.args.source.now) (about c.loop-whole.source) (about c.read.new.self)
          (omega arith) c.loop-whole.invariant.size (omega arith) is c.in_default.ensures c.loop-whole.invariant.took
          (record { within = e.count; left = e.left; adds = e.reads; faults = e.faults; output = e.output });
    }

pub returns-in-End-clause-took : goal.returns-in-End-clause-took
returns-in-End-clause-took g c =
    let e = c.in-End.ensures in
    let about = g.S.Outside.about in
    let asked = length (take (length c.loop-whole.buf - c.loop-whole.got) (drop c.loop-whole.got c.loop-whole.buf)) in
    let is : asked ≡ length c.loop-whole.buf - c.loop-whole.got = omega (arith, length-take (length c.loop-whole.buf - c.loop-whole.got) (drop c.loop-whole.got c.loop-whole.buf), length-drop c.loop-whole.got c.loop-whole.buf) in
    hear_idle c.loop-whole.buf c.read.new.buf c.loop-whole.got _ asked takes.End (about c.args.source.now) (about c.loop-whole.source) (about c.read.new.self)
    (omega arith) c.loop-whole.invariant.size (omega arith) is refl c.in_default.ensures c.loop-whole.invariant.took
    (record { within = e.count; left = e.left; adds = e.reads; faults = e.faults; output = e.output })

pub returns-in-Failed-clause-took : goal.returns-in-Failed-clause-took
returns-in-Failed-clause-took g c =
    let e = c.in-Failed.ensures in
    let about = g.S.Outside.about in
    let asked = length (take (length c.loop-whole.buf - c.loop-whole.got) (drop c.loop-whole.got c.loop-whole.buf)) in
    let is : asked ≡ length c.loop-whole.buf - c.loop-whole.got = omega (arith, length-take (length c.loop-whole.buf - c.loop-whole.got) (drop c.loop-whole.got c.loop-whole.buf), length-drop c.loop-whole.got c.loop-whole.buf) in
    hear_idle c.loop-whole.buf c.read.new.buf c.loop-whole.got _ asked takes.Failed (about c.args.source.now) (about c.loop-whole.source) (about c.read.new.self)
    (omega arith) c.loop-whole.invariant.size (omega arith) is refl c.in_default.ensures c.loop-whole.invariant.took
    (record { within = e.count; left = e.left; adds = e.reads; faults = e.faults; output = e.output })

pub returns-in-End-clause-end : goal.returns-in-End-clause-end
returns-in-End-clause-end g c =
    let got = c.loop-whole.got in
    let xs = c.loop-whole.buf in
    let same : take got (put_mid got (length xs - got) xs c.read.new.buf) ≡ take got xs = take-put_mid_below got (length xs - got) xs c.read.new.buf got (omega arith) (omega arith) in (
      subst (λ (l : List ℕ). LacksAnswer l) (sym same) c.in_default.ensures,
      λ rest told. c.in-End.ensures.end refl rest (c.in-End.ensures.left ∙ ap (with_front []) told),
    )

pub returns-in-Failed-clause-end : goal.returns-in-Failed-clause-end
returns-in-Failed-clause-end g c =
    let got = c.loop-whole.got in
    let xs = c.loop-whole.buf in
    let same : take got (put_mid got (length xs - got) xs c.read.new.buf) ≡ take got xs = take-put_mid_below got (length xs - got) xs c.read.new.buf got (omega arith) (omega arith) in
    subst (λ (l : List ℕ). LacksAnswer l) (sym same) c.in_default.ensures
