use Rattle.std.proofs.Common.{◌≤◌, ◌++◌, length, take, true, false, ap, arith}
use Rattle.std.proofs.lemmas.List.{length-take-le, length-append}
use Rattle.sat_base.proofs.Transfers.{took_as, took_then}
use Rattle.http_parts.specs.Heads.{MayReadHead, max_head}
use Rattle.http_parts.proofs.FrontLemmas.{all_is, never_more, lacks_all, lacks_more, head_of_all}
use Rattle.http_edge.specs.Requests.{MayRead, a_body, a_head, failed_request, no_head, short, long}
use Rattle.http_edge.proofs.RequestLemmas.{head_took, headed_as}
use Rattle.http_edge.proofs.request.read_into.Goals as goal

pub returns-in-Never-clause-outcome : goal.returns-in-Never-clause-outcome
returns-in-Never-clause-outcome g c = λ all o n.
    let about = g.S.Outside.about in
    let read = take c.read_head-read.result.got c.read_head-read.new.buf in
    let e = rw c.in-Never.is at c.read_head-read.ensures.end in
    let a = all_is (about c.args.source.now).left (about c.read_head-read.new.source).left read all c.read_head-read.ensures.took.left o in
    let size : length read ≤ max_head = omega (arith, length-take-le c.read_head-read.result.got c.read_head-read.new.buf (omega arith)) in
    rw a.2 (no_head (never_more read a.0 size e))

pub returns-in-Ended-clause-outcome : goal.returns-in-Ended-clause-outcome
returns-in-Ended-clause-outcome g c = λ all o n.
    let about = g.S.Outside.about in
    let read = take c.read_head-read.result.got c.read_head-read.new.buf in
    let e = rw c.in-Ended.is at c.read_head-read.ensures.end in
    let a = all_is (about c.args.source.now).left (about c.read_head-read.new.source).left read all c.read_head-read.ensures.took.left o in
    let none = e.2 a.0 a.1 in
    rw a.2 (short (lacks_all read a.0 none e.0) (omega (arith, e.1, length-append read a.0, ap length none)))

pub returns-in-Full-clause-outcome : goal.returns-in-Full-clause-outcome
returns-in-Full-clause-outcome g c = λ all o n.
    let about = g.S.Outside.about in
    let read = take c.read_head-read.result.got c.read_head-read.new.buf in
    let e = rw c.in-Full.is at c.read_head-read.ensures.end in
    let a = all_is (about c.args.source.now).left (about c.read_head-read.new.source).left read all c.read_head-read.ensures.took.left o in
    rw a.2 (long (lacks_more read a.0 e.1 e.0) (omega (arith, e.1, length-append read a.0)))

pub returns-in-Whole-clause-outcome : goal.returns-in-Whole-clause-outcome
returns-in-Whole-clause-outcome g c = λ all o.
    let about = g.S.Outside.about in
    let read = take c.read_head-read.result.got c.read_head-read.new.buf in
    let e = rw c.in-Whole.is at c.read_head-read.ensures.end in
    let a = all_is (about c.args.source.now).left (about c.read_head-read.new.source).left read all c.read_head-read.ensures.took.left o in
    let size : length read ≤ max_head = omega (arith, length-take-le c.read_head-read.result.got c.read_head-read.new.buf (omega arith)) in
    let b = c.behind_head.ensures.outcome a.0 a.1 e.1.0 e.1.1 in
    rw a.2 (headed_as c.args.keys.now (read ++ a.0) e.1.0 _ (head_of_all read a.0 c.read_head-read.new.headers _ e.1.0 size c.read_head-read.ensures.room e.0 e.1.1) c.behind_head.result b)

pub returns-in-Whole-clause-took : goal.returns-in-Whole-clause-took
returns-in-Whole-clause-took g c =
    let about = g.S.Outside.about in
    let read = take c.read_head-read.result.got c.read_head-read.new.buf in
    let e = rw c.in-Whole.is at c.read_head-read.ensures.end in
    let t = rw c.in-Whole.is at c.read_head-read.ensures.took in
    let size : length read ≤ max_head = omega (arith, length-take-le c.read_head-read.result.got c.read_head-read.new.buf (omega arith)) in
    let m = c.behind_head.ensures.took e.1.0 e.1.1 in
    let P = MayRead c.args.keys.now in
    let first = took_as P MayReadHead read 0 false (about c.args.source.now) (about c.read_head-read.new.source) t (λ before asked may some. a_head may) in (
      read ++ m.0,
      took_then P _ read m.0 1 (failed_request c.behind_head.result) (about c.args.source.now) (about c.read_head-read.new.source) (about c.behind_head.new.source) first m.1
          (λ before asked may some. a_body e.1.0 _ (head_of_all read before c.read_head-read.new.headers _ e.1.0 size c.read_head-read.ensures.room e.0 e.1.1) may),
      omega (arith, m.2, size, length-append read m.0),
    )

pub returns-in-Never-clause-took : goal.returns-in-Never-clause-took
returns-in-Never-clause-took g c =
    let about = g.S.Outside.about in
    let read = take c.read_head-read.result.got c.read_head-read.new.buf in
    let t = rw c.in-Never.is at c.read_head-read.ensures.took in
    let size : length read ≤ max_head = omega (arith, length-take-le c.read_head-read.result.got c.read_head-read.new.buf (omega arith)) in
    (read, head_took c.args.keys.now read 0 false (about c.args.source.now) (about c.read_head-read.new.source) (omega arith) t, omega (arith, size))

pub returns-in-Ended-clause-took : goal.returns-in-Ended-clause-took
returns-in-Ended-clause-took g c =
    let about = g.S.Outside.about in
    let read = take c.read_head-read.result.got c.read_head-read.new.buf in
    let t = rw c.in-Ended.is at c.read_head-read.ensures.took in
    let size : length read ≤ max_head = omega (arith, length-take-le c.read_head-read.result.got c.read_head-read.new.buf (omega arith)) in
    (read, head_took c.args.keys.now read 1 false (about c.args.source.now) (about c.read_head-read.new.source) (omega arith) t, omega (arith, size))

pub returns-in-Full-clause-took : goal.returns-in-Full-clause-took
returns-in-Full-clause-took g c =
    let about = g.S.Outside.about in
    let read = take c.read_head-read.result.got c.read_head-read.new.buf in
    let t = rw c.in-Full.is at c.read_head-read.ensures.took in
    let size : length read ≤ max_head = omega (arith, length-take-le c.read_head-read.result.got c.read_head-read.new.buf (omega arith)) in
    (read, head_took c.args.keys.now read 0 false (about c.args.source.now) (about c.read_head-read.new.source) (omega arith) t, omega (arith, size))

pub returns-in-Fault-clause-took : goal.returns-in-Fault-clause-took
returns-in-Fault-clause-took g c =
    let about = g.S.Outside.about in
    let read = take c.read_head-read.result.got c.read_head-read.new.buf in
    let t = rw c.in-Fault.is at c.read_head-read.ensures.took in
    let size : length read ≤ max_head = omega (arith, length-take-le c.read_head-read.result.got c.read_head-read.new.buf (omega arith)) in
    (read, head_took c.args.keys.now read 1 true (about c.args.source.now) (about c.read_head-read.new.source) (omega arith) t, omega (arith, size))
