use Rattle.std.proofs.Common.{◌/◌, ◌%◌, ◌^◌, arith}
use Rattle.record_rows.specs.Numbers.{be128}
use Rattle.record_rows.proofs.numbers.U128Coded.take.Goals as goal

pub returns-in_err-high-clause-only : goal.returns-in_err-high-clause-only
unfolding be128
returns-in_err-high-clause-only c x rest fits is mem =
    let h = c.take.ensures.only (x / 2 ^ 64, x % 2 ^ 64) rest (omega arith, omega arith) is in grind (arith, h)

pub returns-clause-only : goal.returns-clause-only
unfolding be128
returns-clause-only c x rest fits is mem =
    let h = c.take.ensures.only (x / 2 ^ 64, x % 2 ^ 64) rest (omega arith, omega arith) is in grind (arith, h)
