use Rattle.std.proofs.Common.{rules, ◌≡◌, ◌≤◌, ◌-◌, length, take, drop, arith, refl}
use Rattle.std.proofs.SliceLists.{between_none}
use Rattle.std.proofs.lemmas.List.{length-take, length-drop}
use Rattle.std.proofs.lemmas.Slice.{overwrites}
use Rattle.sat_base.specs.declared.outside.Taken.TheVariants as takes
use Rattle.sat_base.specs.Streams.{FillsUp}
use Rattle.sat_base.proofs.Transfers.{fill_idle, fill_more, took_none}
use Rattle.sat_base.proofs.streams.fill.Goals as goal

pub loop-len-init : goal.loop-len-init
loop-len-init g c = record {
  least = omega arith;
  most = c.requires;
  size = refl;
  kept = refl;
  took = rw (between_none c.args.buf.now c.args.from) (took_none (FillsUp (length c.args.buf.now - c.args.from)) (g.S.Outside.about c.args.source.now));
}

pub loop-len-preserved : goal.loop-len-preserved
loop-len-preserved g c =
    let e = c.in-Count.ensures in
    let about = g.S.Outside.about in
    let asked = length (take (length c.loop-len.buf - c.loop-len.len) (drop c.loop-len.len c.loop-len.buf)) in
    let is : asked ≡ length c.loop-len.buf - c.loop-len.len = omega (arith, length-take (length c.loop-len.buf - c.loop-len.len) (drop c.loop-len.len c.loop-len.buf), length-drop c.loop-len.len c.loop-len.buf) in
    let fits : c.in-Count.count ≤ length c.loop-len.buf - c.loop-len.len = omega (arith, e.count) in
    record {
      least = omega arith;
      most = search rules;
      size = search rules;
      kept = search (rules, overwrites);
      took = fill_more c.loop-len.buf c.read.new.buf c.args.from c.loop-len.len (length c.args.buf.now) asked c.in-Count.count (about c.args.source.now) (about c.loop-len.source) (about c.read.new.self)
          c.loop-len.invariant.least (omega arith) c.loop-len.invariant.size (omega arith) is c.loop-len.invariant.took
          (record { within = e.count; left = e.left; adds = e.reads; faults = e.faults; output = e.output });
    }

pub returns-in-End-clause-took : goal.returns-in-End-clause-took
returns-in-End-clause-took g c =
    let e = c.in-End.ensures in
    let about = g.S.Outside.about in
    let asked = length (take (length c.loop-len.buf - c.loop-len.len) (drop c.loop-len.len c.loop-len.buf)) in
    let is : asked ≡ length c.loop-len.buf - c.loop-len.len = omega (arith, length-take (length c.loop-len.buf - c.loop-len.len) (drop c.loop-len.len c.loop-len.buf), length-drop c.loop-len.len c.loop-len.buf) in
    fill_idle c.loop-len.buf c.read.new.buf c.args.from c.loop-len.len (length c.args.buf.now) asked takes.End (about c.args.source.now) (about c.loop-len.source) (about c.read.new.self)
    c.loop-len.invariant.least (omega arith) c.loop-len.invariant.size (omega arith) is refl c.loop-len.invariant.took
    (record { within = e.count; left = e.left; adds = e.reads; faults = e.faults; output = e.output })

pub returns-in-Failed-clause-took : goal.returns-in-Failed-clause-took
returns-in-Failed-clause-took g c =
    let e = c.in-Failed.ensures in
    let about = g.S.Outside.about in
    let asked = length (take (length c.loop-len.buf - c.loop-len.len) (drop c.loop-len.len c.loop-len.buf)) in
    let is : asked ≡ length c.loop-len.buf - c.loop-len.len = omega (arith, length-take (length c.loop-len.buf - c.loop-len.len) (drop c.loop-len.len c.loop-len.buf), length-drop c.loop-len.len c.loop-len.buf) in
    fill_idle c.loop-len.buf c.read.new.buf c.args.from c.loop-len.len (length c.args.buf.now) asked takes.Failed (about c.args.source.now) (about c.loop-len.source) (about c.read.new.self)
    c.loop-len.invariant.least (omega arith) c.loop-len.invariant.size (omega arith) is refl c.loop-len.invariant.took
    (record { within = e.count; left = e.left; adds = e.reads; faults = e.faults; output = e.output })
