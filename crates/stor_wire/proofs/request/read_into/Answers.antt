use Rattle.std.proofs.Common.{ℕ, ◌≤◌, List, ◌++◌, length, take, false, true, arith}
use Rattle.std.proofs.lemmas.List.{length-take-le, length-append}
use Rattle.sat_base.proofs.Transfers.{took_as, took_then}
use Rattle.http_parts.specs.Heads.{MayReadHead, max_head}
use Rattle.http_parts.proofs.FrontLemmas.{head_of_all}
use Rattle.stor_wire.specs.Requests.{MayRead, a_head, a_piece, failed_request}
use Rattle.stor_wire.proofs.ReadLemmas.{head_took, headless}
use Rattle.stor_wire.proofs.RequestLemmas.{lacks_short, read_of}
use Rattle.stor_wire.proofs.request.read_into.Goals as goal

pub returns-in-Whole : goal.returns-in-Whole
returns-in-Whole g c =
    let about = g.S.Outside.about in
    let read = take c.read_head-read.result.got c.read_head-read.new.buf in
    let e = rw c.in-Whole.is at c.read_head-read.ensures.end in
    let t = rw c.in-Whole.is at c.read_head-read.ensures.took in
    let size : length read ≤ max_head = omega (arith, length-take-le c.read_head-read.result.got c.read_head-read.new.buf (omega arith)) in
    let m = c.behind_head.ensures e.1.0 e.1.1 in
    let first = took_as MayRead MayReadHead read 0 false (about c.args.source.now) (about c.read_head-read.new.source) t (λ before asked may some. a_head may) in
    let at_front = λ (before : List ℕ). head_of_all read before c.read_head-read.new.headers _ e.1.0 size c.read_head-read.ensures.room e.0 e.1.1 in (
      read ++ m.0,
      took_then MayRead _ read m.0 1 (failed_request c.behind_head.result) (about c.args.source.now) (about c.read_head-read.new.source) (about c.behind_head.new.source) first m.1
          (λ before asked may some. a_piece e.1.0 _ (at_front before) may),
      omega (arith, m.2, size, length-append read m.0),
      read_of (read ++ m.0) e.1.0 _ (about c.behind_head.new.source).left c.behind_head.result (at_front m.0) m.3,
    )

pub returns-in-Never : goal.returns-in-Never
returns-in-Never g c =
    let about = g.S.Outside.about in
    let read = take c.read_head-read.result.got c.read_head-read.new.buf in
    let size : length read ≤ max_head = omega (arith, length-take-le c.read_head-read.result.got c.read_head-read.new.buf (omega arith)) in
    headless read c.read_head-read.new.headers c.read_head-read.result.end (about c.args.source.now) (about c.read_head-read.new.source) size c.in-Never.is c.read_head-read.ensures.end c.read_head-read.ensures.took

pub returns-in-Fault : goal.returns-in-Fault
returns-in-Fault g c =
    let about = g.S.Outside.about in
    let read = take c.read_head-read.result.got c.read_head-read.new.buf in
    let e = rw c.in-Fault.is at c.read_head-read.ensures.end in
    let t = rw c.in-Fault.is at c.read_head-read.ensures.took in
    let size : length read ≤ max_head = omega (arith, length-take-le c.read_head-read.result.got c.read_head-read.new.buf (omega arith)) in
    (read, head_took read 1 true (about c.args.source.now) (about c.read_head-read.new.source) (omega arith) t, omega (arith, size), lacks_short read e.0 e.1)
