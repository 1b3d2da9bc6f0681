use Rattle.std.proofs.Common.{◌≡◌, bit_xor}
use Rattle.order_limits.proofs.InPlace.{changed_to}
use Rattle.order_limits.proofs.mac.mask_all.Given as goal

abbrev pub invariant-loop-byte : goal.invariant-loop-byte
invariant-loop-byte l = l.bytes ≡ changed_to (λ b. bit_xor b l.mask) l.byte-index l.initial.bytes
