use Rattle.std.proofs.Common.{[], refl, false, arith}
use Rattle.sat_base.proofs.Transfers.{took_none, took_within}
use Rattle.http_parts.specs.Bodies.{MayReadBody}
use Rattle.http_parts.proofs.bodies.fetch_body.Goals as goal

pub returns-in_default-clause-took : goal.returns-in_default-clause-took
returns-in_default-clause-took g c =
    let about = g.S.Outside.about in
    ([], took_within (MayReadBody c.args.size c.args.read.now) [] 0 1 false (about c.args.source.now) (about c.args.source.now) (omega arith) (took_none _ _), omega arith, refl)
