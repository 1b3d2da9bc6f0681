use Rattle.std.proofs.Common.{refl, arith, Ok}
use Rattle.std.proofs.lemmas.Iterator.{items_from_collect, YieldsList-from_range}
use Rattle.bw_decode.proofs.scratch.indexes_below.Goals as goal

pub returns : goal.returns
returns c =
    items_from_collect {E = Unit {0}} (Ok c.in_ok-collect.field-0) c.in_ok-collect.ensures.ran
    (YieldsList-from_range 0 c.args.n c.args.n refl (omega arith))
