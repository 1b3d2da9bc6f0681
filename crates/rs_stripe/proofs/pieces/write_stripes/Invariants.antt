use Rattle.std.proofs.Common.{◌≡◌, ◌*◌, length}
use Rattle.sat_base.specs.Scheme.{stripe_count}
use Rattle.rs_stripe.specs.Pieces.{AreWritten}
use Rattle.rs_stripe.proofs.pieces.write_stripes.Given as goal

abbrev pub invariant-loop-s : goal.invariant-loop-s
invariant-loop-s l = record {
  k : l.encoder.k ≡ l.scheme.k;
  size : l.encoder.size ≡ l.scheme.share;
  indexes : l.encoder.indexes ≡ l.initial.encoder.indexes;
  written : AreWritten l.scheme.k l.scheme.share l.segment l.encoder.indexes
      (stripe_count l.scheme.k l.scheme.share (length l.segment) * l.scheme.share) l.s l.pieces;
}
