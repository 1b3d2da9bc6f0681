use Rattle.std.proofs.Common.{ℕ, ◌≡◌, ◌<◌, ◌≤◌, slice_index}
use Rattle.gf256.specs.Field.{◌⊗◌}
use Rattle.bw_decode.proofs.decoding.multiply_each.Given as goal

abbrev pub invariant-loop-j : goal.invariant-loop-j
invariant-loop-j l = record {
  done : (k : ℕ) → k < l.j → slice_index l.bytes k ≡ slice_index l.initial.bytes k ⊗ slice_index l.factors k;
  rest : (k : ℕ) → l.j ≤ k → slice_index l.bytes k ≡ slice_index l.initial.bytes k;
}
