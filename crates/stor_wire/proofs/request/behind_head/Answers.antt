use Rattle.std.proofs.Common.{ℕ, ◌+◌, ◌≤◌, List, [], ◌++◌, length, drop, arith}
use Rattle.std.proofs.lemmas.List.{length-append}
use Rattle.std.proofs.lemmas.Slice.{between_to_end}
use Rattle.sat_base.proofs.Transfers.{took_as}
use Rattle.stor_wire.specs.Requests.{MayReadBehind, failed_request}
use Rattle.stor_wire.proofs.DemandLemmas.{passed_up}
use Rattle.stor_wire.proofs.ReadLemmas.{asks_none, none_behind}
use Rattle.stor_wire.proofs.RequestLemmas.{piece_behind}
use Rattle.stor_wire.proofs.request.behind_head.Goals as goal

pub returns-in_err-wanted : goal.returns-in_err-wanted
returns-in_err-wanted g c = λ h at.
    let e = c.in_err-wanted.field-0.0 in
    let up = passed_up c.from_residual.result e c.from_residual.ensures.1 in
    rw up (asks_none h (drop c.args.spans.len c.args.read.now) (g.S.Outside.about c.args.source.now) e (c.in_err-wanted.ensures.says h at))

pub returns-in-Range : goal.returns-in-Range
returns-in-Range g c = λ h at.
    let fetches = rw c.in-Range.is at (c.in_ok-wanted.ensures.says h at) in
    ([], none_behind h (drop c.args.spans.len c.args.read.now) (g.S.Outside.about c.args.source.now), omega arith, fetches)

pub returns-in-Body : goal.returns-in-Body
returns-in-Body g c = λ h at.
    let about = g.S.Outside.about in
    let puts = rw c.in-Body.is at (c.in_ok-wanted.ensures.says h at) in
    let behind = between_to_end c.args.read.now c.args.spans.len (length c.args.read.now) (omega arith) in
    let m = rw behind at c.with_piece.ensures in
    let rest = drop c.args.spans.len c.args.read.now in (
      m.0,
      took_as (λ (taken : List ℕ) (asked : ℕ). MayReadBehind h (rest ++ taken) asked) (λ (taken : List ℕ) (asked : ℕ). length rest + length taken + asked ≤ c.in-Body.wanted.len)
          m.0 1 (failed_request c.with_piece.result) (about c.args.source.now) (about c.with_piece.new.source) m.1
          (λ before asked may some. record { wanted = c.in-Body.wanted; puts = puts; missing = omega (arith, may, length-append rest before) }),
      m.2,
      piece_behind h (rest ++ m.0) (about c.with_piece.new.source).left c.in-Body.wanted c.with_piece.result puts m.3,
    )
