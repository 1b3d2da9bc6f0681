use Rattle.std.proofs.Common.{◌∙◌, arith}
use Rattle.order_limits.proofs.Reading.{if_order, order_read}
use Rattle.order_limits.proofs.read.read_order.Goals as goal

pub returns-clause-found : goal.returns-clause-found
returns-clause-found c = if_order c.args.keys.now c.args.bytes.now c.checked_order.result (λ i. omega (arith, c.type_inv.bytes i)) c.checked_order.ensures.exact c.checked_order.ensures.fits

pub returns-clause-only : goal.returns-clause-only
returns-clause-only c = λ o good. c.checked_order.ensures.exact ∙ order_read c.args.keys.now c.args.bytes.now o good
