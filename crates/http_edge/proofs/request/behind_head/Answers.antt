use Rattle.std.proofs.Common.{ℕ, List, [], ◌++◌, length, drop, false, arith}
use Rattle.std.proofs.lemmas.List.{length-append}
use Rattle.std.proofs.lemmas.Slice.{between_to_end}
use Rattle.http_edge.specs.Requests.{MayReadBehind, failed_request, refused, stated}
use Rattle.sat_base.proofs.Transfers.{took_as, took_none, took_within}
use Rattle.http_parts.specs.Bodies.{MayReadBody}
use Rattle.http_edge.proofs.RequestLemmas.{bodied_as}
use Rattle.http_edge.proofs.request.behind_head.Goals as goal

pub with_body-requires : goal.with_body-requires
with_body-requires g c = record { size = c.in-Body.ensures.small; route = c.in-Body.ensures.within }

pub returns-in-Refused-clause-outcome : goal.returns-in-Refused-clause-outcome
returns-in-Refused-clause-outcome g c = λ l o h at n. refused _ (c.in-Refused.ensures.says h at)

pub returns-in-Statement-clause-outcome : goal.returns-in-Statement-clause-outcome
returns-in-Statement-clause-outcome g c = λ l o h at. stated _ _ (c.in-Statement.ensures.says h at)

pub returns-in-Body-clause-outcome : goal.returns-in-Body-clause-outcome
returns-in-Body-clause-outcome g c = λ l o h at. let b = rw (between_to_end c.args.read.now c.args.spans.len (length c.args.read.now) (omega arith)) at (c.with_body.ensures.outcome l o) in bodied_as c.args.keys.now h _ _ _ (c.in-Body.ensures.says h at) c.with_body.result b

pub returns-in-Refused-clause-took : goal.returns-in-Refused-clause-took
returns-in-Refused-clause-took g c = λ h at. ([], took_within _ [] 0 1 false _ _ (omega arith) (took_none _ _), omega arith)

pub returns-in-Statement-clause-took : goal.returns-in-Statement-clause-took
returns-in-Statement-clause-took g c = λ h at. ([], took_within _ [] 0 1 false _ _ (omega arith) (took_none _ _), omega arith)

pub returns-in-Body-clause-took : goal.returns-in-Body-clause-took
returns-in-Body-clause-took g c = λ h at.
    let behind = between_to_end c.args.read.now c.args.spans.len (length c.args.read.now) (omega arith) in
    let m = rw behind at c.with_body.ensures.took in
    let rest = drop c.args.spans.len c.args.read.now in (
      m.0,
      took_as (λ (taken : List ℕ) (asked : ℕ). MayReadBehind c.args.keys.now h (rest ++ taken) asked) (MayReadBody c.in-Body.size rest) m.0 1 (failed_request c.with_body.result) _ _ m.1
          (λ before asked may some. record { route = c.in-Body.route; size = c.in-Body.size; demands = c.in-Body.ensures.says h at; missing = omega (arith, may, length-append rest before) }),
      m.2,
    )
