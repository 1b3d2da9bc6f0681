use Rattle.std.proofs.Common.{◌≡◌, take}
use Rattle.std.specs.Prelude.{All}
use Rattle.sha2.specs.Sha256.{sha256}
use Rattle.rs_stripe.specs.Segment.{share_of}
use Rattle.audit_core.specs.Verdict.{silent_indexes}
use Rattle.audit_core.proofs.judging.owing_shares.Given as goal

abbrev pub invariant-loop-place : goal.invariant-loop-place
invariant-loop-place l = record {
  indexes : silent_indexes l.owing.items ≡ take l.place l.silent;
  expects : All (λ one. one.expect ≡ sha256 (share_of l.scheme.k l.scheme.share l.stripe one.index)) l.owing.items;
}
