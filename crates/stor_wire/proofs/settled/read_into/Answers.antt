use Rattle.std.proofs.Common.{◌≤◌, length, take, arith}
use Rattle.std.proofs.lemmas.List.{length-take-le}
use Rattle.stor_wire.specs.Settlements.{max_answer}
use Rattle.stor_wire.proofs.SettlementLemmas.{heard_none, heard_whole}
use Rattle.stor_wire.proofs.settled.read_into.Goals as goal

pub returns-in-Whole : goal.returns-in-Whole
returns-in-Whole g c =
    let about = g.S.Outside.about in
    let read = take c.read_answer-read.result.got c.read_answer-read.new.buf in
    let e = rw c.in-Whole.is at c.read_answer-read.ensures.end in
    let t = rw c.in-Whole.is at c.read_answer-read.ensures.took in
    let size : length read ≤ max_answer = omega (arith, length-take-le c.read_answer-read.result.got c.read_answer-read.new.buf (omega arith)) in
    heard_whole read c.in-Whole.at c.said_by.result (about c.args.source.now) (about c.read_answer-read.new.source) size e c.said_by.ensures t

pub returns-in-Ended : goal.returns-in-Ended
returns-in-Ended g c =
    let about = g.S.Outside.about in
    let read = take c.read_answer-read.result.got c.read_answer-read.new.buf in
    let size : length read ≤ max_answer = omega (arith, length-take-le c.read_answer-read.result.got c.read_answer-read.new.buf (omega arith)) in
    heard_none read c.read_answer-read.result.end (about c.args.source.now) (about c.read_answer-read.new.source) size c.in-Ended.is c.read_answer-read.ensures.end c.read_answer-read.ensures.took

pub returns-in-Fault : goal.returns-in-Fault
returns-in-Fault g c =
    let read = take c.read_answer-read.result.got c.read_answer-read.new.buf in
    let e = rw c.in-Fault.is at c.read_answer-read.ensures.end in
    let t = rw c.in-Fault.is at c.read_answer-read.ensures.took in
    let size : length read ≤ max_answer = omega (arith, length-take-le c.read_answer-read.result.got c.read_answer-read.new.buf (omega arith)) in
    (read, t, size, e)
