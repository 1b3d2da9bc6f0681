use Rattle.std.proofs.Common.{◌≡◌}
use Rattle.bench_coding.proofs.encoding.kept.Given as goal

abbrev pub invariant-rounds : goal.invariant-rounds
invariant-rounds g l = record {
  k : l.encoder.k ≡ l.work.scheme.k;
  size : l.encoder.size ≡ l.work.scheme.share;
  indexes : l.encoder.indexes ≡ l.work.parity.items;
}
