use Rattle.std.proofs.Common.{subst}
use Rattle.order_uses.specs.Reading.{AreBytes}
use Rattle.order_uses.proofs.TakeLemmas.{if_serial}
use Rattle.order_uses.proofs.counting.take_case.Goals as goal

pub returns-clause-serial : goal.returns-clause-serial
returns-clause-serial c =
    if_serial c.args.node c.args.key.now c.args.cap c.args.rows.now.rows c.args.now c.args.wanted.now c.case_of.result
    (subst AreBytes c.as_slice.ensures c.are_bytes.ensures) c.case_of.ensures
