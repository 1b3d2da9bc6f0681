use Rattle.std.proofs.Common.{length, sym, ap, ◌∙◌}
use Rattle.order_limits.proofs.Reading.{offer_long}
use Rattle.order_uses.proofs.counting.case_of.Goals as goal

pub counted_beside-requires : goal.counted_beside-requires
counted_beside-requires c =
    ap length (sym c.as_slice.ensures) ∙ offer_long c.args.key.now c.as_slice.result.now c.in_ok-order.order (sym c.in_ok-order.ensures.exact)
