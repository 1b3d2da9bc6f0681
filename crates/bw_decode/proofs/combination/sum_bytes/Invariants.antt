use Rattle.std.proofs.Common.{◌≡◌, slice_index}
use Rattle.gf256.specs.Sums.{total}
use Rattle.bw_decode.proofs.combination.sum_bytes.Given as goal

abbrev pub invariant-loop-c : goal.invariant-loop-c
invariant-loop-c l = l.sum ≡ total l.c (slice_index l.bytes)
