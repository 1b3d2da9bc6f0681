use Rattle.std.proofs.Common.{◌≡◌, ◌≤◌, ◌<◌, ◌+◌, ◌*◌, ℕ, List, ap, ap₂, sym, ◌∙◌, subst, length, slice_index, slice_index_or, arith}
use Rattle.std.proofs.Math.Nat.{mul-le-mul_left}
use Rattle.sat_base.specs.Scheme.{stripe_count}
use Rattle.rs_stripe.specs.Segment.{share_of}
use Rattle.rs_stripe.specs.Encoding.{filled}
use Rattle.rs_stripe.specs.Pieces.{IsWritten, AreWritten}
use Rattle.rs_stripe.proofs.ManyPieces.{written_more}
use Rattle.rs_stripe.proofs.pieces.write_stripes.Goals as goal

pub write_shares-requires-clause-room : goal.write_shares-requires-clause-room
write_shares-requires-clause-room c = λ t d h.
    let share = c.args.scheme.now.share in
    let count = stripe_count c.args.scheme.now.k share (length c.args.segment.now) in
    let s = c.loop-s.s in
    let left : s < count = omega (arith, c.loop-s-test.true, c.loop-s.auto.s-end, c.stripes-s-end.ensures) in
    let fits : share * (s + 1) ≤ share * count = mul-le-mul_left share (omega arith) in
    let at : s * c.from-size.result ≡ s * share = ap (λ n. s * n) c.from-size.ensures in
    omega (arith, fits, at, c.hold.ensures.size, c.loop-s.invariant.size, c.loop-s.invariant.written.long t d h)

pub loop-s-preserved : goal.loop-s-preserved
loop-s-preserved c =
    let before = c.loop-s.invariant in
    let scheme = c.args.scheme.now in
    let segment = c.args.segment.now in
    let s = c.loop-s.s in
    let old = c.loop-s.pieces in
    let new = c.write_shares.new.pieces in
    let held = c.hold.new.self in
    let bytes = c.run_of.result.now in
    let k = c.hold.ensures.k ∙ before.k in
    let size = c.hold.ensures.size ∙ before.size in
    let stripe : held.stripe ≡ filled (scheme.k * scheme.share) bytes
    = c.hold.ensures.stripe ∙ ap₂ (λ a b. filled (a * b) bytes) before.k before.size in
    let len : c.from.result * c.from-size.result ≡ scheme.k * scheme.share = ap₂ (λ a b. a * b) c.from.ensures c.from-size.ensures in
    let run = subst (λ n. (p : ℕ) → p < n → slice_index bytes p ≡ slice_index segment (s * n + p)) len c.run_of.ensures.value in
    let written = subst
    (λ (indexes : List ℕ). AreWritten scheme.k scheme.share segment indexes (stripe_count scheme.k scheme.share (length segment) * scheme.share) s old)
    (sym c.hold.ensures.indexes) before.written in
    record {
      k = k;
      size = size;
      indexes = c.hold.ensures.indexes ∙ before.indexes;
      written = written_more scheme.k scheme.share segment held.indexes _ s bytes old new written c.write_shares.auto.pieces run
          (λ t d h.
          let j = slice_index held.indexes t in
          let share : share_of held.k held.size held.stripe j ≡ share_of scheme.k scheme.share (filled (scheme.k * scheme.share) bytes) j
          = ap (λ n. share_of n held.size held.stripe j) k ∙ ap (λ n. share_of scheme.k n held.stripe j) size ∙ ap (λ (z : List ℕ). share_of scheme.k scheme.share z j) stripe in
          subst (λ (z : List ℕ). IsWritten z (s * scheme.share) (slice_index_or old t d) (slice_index_or new t d)) share
          (subst (λ n. IsWritten (share_of held.k held.size held.stripe j) (s * n) (slice_index_or old t d) (slice_index_or new t d)) c.from-size.ensures
          (c.write_shares.ensures t d h)));
    }
