use Rattle.std.proofs.Common.{◌∙◌, arith}
use Rattle.order_limits.proofs.Reading.{if_offer, offer_read}
use Rattle.order_limits.proofs.read.read_offer.Goals as goal

pub returns-clause-found : goal.returns-clause-found
returns-clause-found c = if_offer c.args.node_key.now c.args.bytes.now c.checked_offer.result (λ i. omega (arith, c.type_inv.bytes i)) c.checked_offer.ensures.exact c.checked_offer.ensures.fits

pub returns-clause-only : goal.returns-clause-only
returns-clause-only c = λ o good. c.checked_offer.ensures.exact ∙ offer_read c.args.node_key.now c.args.bytes.now o good
