use Rattle.std.proofs.Common.{bit_xor, arith}
use Rattle.order_limits.proofs.InPlace.{change_next, change_all}
use Rattle.order_limits.proofs.mac.mask_all.Goals as goal

pub loop-byte-preserved : goal.loop-byte-preserved
loop-byte-preserved c = change_next (λ b. bit_xor b c.args.mask) c.args.bytes.now c.loop-byte.bytes c.loop-byte.byte-index (omega arith) c.loop-byte.invariant

pub returns : goal.returns
returns c = change_all (λ b. bit_xor b c.args.mask) c.args.bytes.now c.loop-byte.bytes c.loop-byte.byte-index (omega arith) c.loop-byte.invariant
