use Rattle.std.proofs.Common.{rules, ◌≡◌, ◌≤◌, ◌-◌, length, take, drop, arith, refl, ◌∙◌, ap, []}
use Rattle.std.proofs.lemmas.List.{length-take, length-drop, length-take-le}
use Rattle.std.proofs.lemmas.Slice.{take-put_mid_below}
use borrow.Rule.Slice.PartMut.{put_mid}
use Rattle.sat_base.specs.declared.outside.Taken.TheVariants as takes
use Rattle.sat_base.specs.Outside.{with_front}
use Rattle.sat_base.proofs.Transfers.{took_none}
use Rattle.http_parts.specs.Heads.{MayReadHead}
use Rattle.http_parts.proofs.HeadLemmas.{head_idle, head_more, lacks_undecided}
use Rattle.http_parts.proofs.head.read_head.Goals as goal

pub loop-spans-init : goal.loop-spans-init
loop-spans-init g c = record { within = omega arith; size = c.requires.size; room = c.requires.lines; took = took_none MayReadHead (g.S.Outside.about c.args.source.now) }

pub loop-spans-preserved : goal.loop-spans-preserved
loop-spans-preserved g c =
    let e = c.in-Count.ensures in
    let about = g.S.Outside.about in
    let asked = length (take (length c.loop-spans.buf - c.loop-spans.got) (drop c.loop-spans.got c.loop-spans.buf)) in
    let is : asked ≡ length c.loop-spans.buf - c.loop-spans.got = omega (arith, length-take (length c.loop-spans.buf - c.loop-spans.got) (drop c.loop-spans.got c.loop-spans.buf), length-drop c.loop-spans.got c.loop-spans.buf) in
    let undecided = rw c.loop-spans.invariant.room at c.in-Open.ensures.says in
    let fits : c.in-Count.count ≤ length c.loop-spans.buf - c.loop-spans.got = omega (arith, e.count) in
    record {
      within = omega arith;
      size = search rules;
      room = search rules;
      took = head_more c.loop-spans.buf c.read.new.buf c.loop-spans.got _ asked c.in-Count.count (about c.args.source.now) (about c.loop-spans.source) (about c.read.new.self)
          (omega arith) c.loop-spans.invariant.size (omega arith) is undecided c.loop-spans.invariant.took
          (record { within = e.count; left = e.left; adds = e.reads; faults = e.faults; output = e.output });
    }

pub returns-in-End-clause-took : goal.returns-in-End-clause-took
returns-in-End-clause-took g c =
    let e = c.in-End.ensures in
    let about = g.S.Outside.about in
    let asked = length (take (length c.loop-spans.buf - c.loop-spans.got) (drop c.loop-spans.got c.loop-spans.buf)) in
    let is : asked ≡ length c.loop-spans.buf - c.loop-spans.got = omega (arith, length-take (length c.loop-spans.buf - c.loop-spans.got) (drop c.loop-spans.got c.loop-spans.buf), length-drop c.loop-spans.got c.loop-spans.buf) in
    let undecided = rw c.loop-spans.invariant.room at c.in-Open.ensures.says in
    head_idle c.loop-spans.buf c.read.new.buf c.loop-spans.got _ asked takes.End (about c.args.source.now) (about c.loop-spans.source) (about c.read.new.self)
    (omega arith) c.loop-spans.invariant.size (omega arith) is refl undecided c.loop-spans.invariant.took
    (record { within = e.count; left = e.left; adds = e.reads; faults = e.faults; output = e.output })

pub returns-in-Failed-clause-took : goal.returns-in-Failed-clause-took
returns-in-Failed-clause-took g c =
    let e = c.in-Failed.ensures in
    let about = g.S.Outside.about in
    let asked = length (take (length c.loop-spans.buf - c.loop-spans.got) (drop c.loop-spans.got c.loop-spans.buf)) in
    let is : asked ≡ length c.loop-spans.buf - c.loop-spans.got = omega (arith, length-take (length c.loop-spans.buf - c.loop-spans.got) (drop c.loop-spans.got c.loop-spans.buf), length-drop c.loop-spans.got c.loop-spans.buf) in
    let undecided = rw c.loop-spans.invariant.room at c.in-Open.ensures.says in
    head_idle c.loop-spans.buf c.read.new.buf c.loop-spans.got _ asked takes.Failed (about c.args.source.now) (about c.loop-spans.source) (about c.read.new.self)
    (omega arith) c.loop-spans.invariant.size (omega arith) is refl undecided c.loop-spans.invariant.took
    (record { within = e.count; left = e.left; adds = e.reads; faults = e.faults; output = e.output })

pub returns-in-End-clause-end : goal.returns-in-End-clause-end
returns-in-End-clause-end g c =
    let undecided = rw c.loop-spans.invariant.room at c.in-Open.ensures.says in
    let got = c.loop-spans.got in
    let xs = c.loop-spans.buf in
    let same : take got (put_mid got (length xs - got) xs c.read.new.buf) ≡ take got xs = take-put_mid_below got (length xs - got) xs c.read.new.buf got (omega arith) (omega arith) in (
      rw same (lacks_undecided _ undecided),
      rw same (omega (arith, length-take-le got xs (omega arith))),
      λ rest told. c.in-End.ensures.end refl rest (c.in-End.ensures.left ∙ ap (with_front []) told),
    )

pub returns-then-got-buf-clause-end : goal.returns-then-got-buf-clause-end
returns-then-got-buf-clause-end g c =
    let undecided = rw c.loop-spans.invariant.room at c.in-Open.ensures.says in
    (lacks_undecided _ undecided, omega (arith, length-take-le c.loop-spans.got c.loop-spans.buf (omega arith)))
