use Rattle.std.proofs.Common.{◌≡◌, slice_index}
use Rattle.gf256.specs.Sums.{total}
use Rattle.bw_decode.proofs.decoding.sum_of.Given as goal

abbrev pub invariant-loop-j : goal.invariant-loop-j
invariant-loop-j l = l.sum ≡ total l.j (slice_index l.bytes)
