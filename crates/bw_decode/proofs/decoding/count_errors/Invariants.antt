use Rattle.std.proofs.Common.{◌≡◌, ◌≤◌, length, slice_index}
use Rattle.gf_linear.specs.Lagrange.{interpolated}
use Rattle.gf_linear.specs.Differences.{differences}
use Rattle.bw_decode.proofs.decoding.count_errors.Given as goal

abbrev pub invariant-loop-i : goal.invariant-loop-i
invariant-loop-i l = record {
  few : l.count ≤ l.i;
  is : l.count ≡ differences l.i (λ i. interpolated (length l.chosen) (slice_index l.chosen) (slice_index l.chosen_values) (slice_index l.points i)) (slice_index l.values);
}
