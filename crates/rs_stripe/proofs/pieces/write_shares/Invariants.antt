use Rattle.std.proofs.Common.{◌≡◌, ◌<◌, ◌≤◌, ℕ, List, slice_index, slice_index_or}
use Rattle.rs_stripe.specs.Segment.{share_of}
use Rattle.rs_stripe.specs.Pieces.{IsWritten}
use Rattle.rs_stripe.proofs.pieces.write_shares.Given as goal

abbrev pub invariant-loop-place : goal.invariant-loop-place
invariant-loop-place l = record {
  written : (t : ℕ) (d : List ℕ) → t < l.place
      → IsWritten (share_of l.encoder.k l.encoder.size l.encoder.stripe (slice_index l.encoder.indexes t)) l.at
      (slice_index_or l.initial.pieces t d) (slice_index_or l.pieces t d);
  rest : (t : ℕ) (d : List ℕ) → l.place ≤ t → slice_index_or l.pieces t d ≡ slice_index_or l.initial.pieces t d;
}
