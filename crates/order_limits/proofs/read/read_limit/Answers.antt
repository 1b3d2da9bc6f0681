use Rattle.std.proofs.Common.{◌∙◌, arith}
use Rattle.order_limits.proofs.Reading.{if_limit, limit_read}
use Rattle.order_limits.proofs.read.read_limit.Goals as goal

pub returns-clause-found : goal.returns-clause-found
returns-clause-found c = if_limit c.args.node_key.now c.args.bytes.now c.checked_limit.result (λ i. omega (arith, c.type_inv.bytes i)) c.checked_limit.ensures.exact c.checked_limit.ensures.fits

pub returns-clause-only : goal.returns-clause-only
returns-clause-only c = λ l good. c.checked_limit.ensures.exact ∙ limit_read c.args.node_key.now c.args.bytes.now l good
