use Rattle.std.proofs.Common.{ap, ◌∙◌}
use Rattle.order_limits.specs.Hmac.{padded, masked}
use Rattle.order_limits.proofs.Pieces.{filled}
use Rattle.order_limits.proofs.mac.masked_block.Goals as goal

pub returns : goal.returns
unfolding padded
returns c = c.mask_all.ensures ∙ ap (masked c.args.mask) (filled c.write_at.new.out c.args.key.now 64 c.write_at.ensures.front c.write_at.ensures.rest)
