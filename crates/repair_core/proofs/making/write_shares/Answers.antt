use Rattle.std.proofs.Common.{◌≡◌, ◌<◌, ◌*◌, ◌∙◌, ℕ, List, length, sym, subst, arith, slice_index_or}
use Rattle.sat_base.specs.declared.items.Share.{Share}
use Rattle.rs_stripe.proofs.ManyShares.{filled_whole}
use Rattle.repair_core.specs.Room.{IsWritten}
use Rattle.repair_core.proofs.Mending.{still_indexes}
use Rattle.repair_core.proofs.making.write_shares.Goals as goal

pub returns-clause-written : goal.returns-clause-written
returns-clause-written c = λ i d h.
    let encoder = c.args.encoder.now in
    let held = c.hold.new.self in
    let old = c.args.fresh.now in
    let new = c.loop-i.fresh in
    let within : i < c.loop-i.i = omega (arith, h, c.loop-i-test.false, c.loop-i.auto.fresh, c.loop-i.auto.i-end) in
    let stripe : held.stripe ≡ c.args.stripe.now = c.hold.ensures.stripe ∙ filled_whole (encoder.k * encoder.size) c.args.stripe.now c.requires.stripe in
    subst (λ (xs : List ℕ). IsWritten encoder.k encoder.size c.args.done xs (slice_index_or old i d) (slice_index_or new i d)) stripe
    (subst (λ n. IsWritten encoder.k n c.args.done held.stripe (slice_index_or old i d) (slice_index_or new i d)) c.hold.ensures.size
    (subst (λ n. IsWritten n held.size c.args.done held.stripe (slice_index_or old i d) (slice_index_or new i d)) c.hold.ensures.k
    (c.loop-i.invariant.written i d within)))

pub returns-clause-encoder : goal.returns-clause-encoder
returns-clause-encoder c =
    let held = c.hold.new.self in
    let each : (i : ℕ) (d : Share) → i < length c.args.fresh.now
    → IsWritten held.k held.size c.args.done held.stripe (slice_index_or c.args.fresh.now i d) (slice_index_or c.loop-i.fresh i d)
    = λ i d h. c.loop-i.invariant.written i d (omega (arith, h, c.loop-i-test.false, c.loop-i.auto.fresh, c.loop-i.auto.i-end)) in
    record {
      k_is = c.hold.ensures.k;
      size_is = c.hold.ensures.size;
      indexes_are = c.hold.ensures.indexes ∙ c.requires.encoder
          ∙ sym (still_indexes held.k held.size c.args.done held.stripe c.args.fresh.now c.loop-i.fresh c.loop-i.auto.fresh each);
    }
