use Rattle.std.proofs.Common.{ℕ, ◌≡◌, ◌<◌, slice_index}
use Rattle.gf256.specs.Field.{power}
use Rattle.bw_decode.proofs.combination.write_powers.Given as goal

abbrev pub invariant-loop-c : goal.invariant-loop-c
invariant-loop-c l = record {
  next : l.factor ≡ power l.base l.c;
  done : (k : ℕ) → k < l.c → slice_index l.factors k ≡ power l.base k;
}
