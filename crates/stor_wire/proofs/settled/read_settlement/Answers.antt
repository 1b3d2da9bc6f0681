use Rattle.std.proofs.Common.{[], false, arith}
use Rattle.sat_base.proofs.Transfers.{took_none, took_within}
use Rattle.http_parts.proofs.FrontLemmas.{all_is}
use Rattle.stor_wire.specs.Settlements.{MayReadAnswer}
use Rattle.stor_wire.proofs.AnswerLemmas.{settled_of}
use Rattle.stor_wire.proofs.settled.read_settlement.Goals as goal

pub returns-in_default-clause-took : goal.returns-in_default-clause-took
returns-in_default-clause-took g c =
    let about = g.S.Outside.about in
    ([], took_within MayReadAnswer [] 0 1 false (about c.args.source.now) (about c.args.source.now) (omega arith) (took_none _ _), omega arith, tt)

pub returns-clause-outcome : goal.returns-clause-outcome
returns-clause-outcome g c = λ all told.
    let about = g.S.Outside.about in
    let read = c.read_into.ensures in
    let left = all_is (about c.args.source.now).left (about c.read_into.new.source).left read.0 all read.1.left told in
    settled_of read.0 left.0 all (about c.read_into.new.source).left c.read_into.result left.1 left.2 read.3
