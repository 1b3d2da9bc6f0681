use Rattle.std.proofs.Common.{◌≡◌, take, arith}
use Rattle.std.proofs.lemmas.List.{take_at}
use Rattle.record_rows.proofs.numbers.ArrayU832Coded.take.Goals as goal

pub returns-clause-only : goal.returns-clause-only
returns-clause-only c x rest fits is mem =
    let e : take 32 c.args.bytes.now ≡ x = rw is (take_at x rest 32 fits) in grind (arith, e)
