use Rattle.std.proofs.Common.{◌≡◌, ◌*◌, ◌++◌, ◌∷◌, [], ◌∙◌, ℕ, List, ap, ap₂, sym, slice_index, arith}
use Rattle.std.proofs.lemmas.List.{map-append, take_more}
use Rattle.std.proofs.lemmas.Grind.{elements}
use Rattle.sha2.specs.Sha256.{sha256}
use Rattle.rs_stripe.specs.Segment.{share_of}
use Rattle.rs_stripe.specs.Encoding.{filled}
use Rattle.rs_stripe.proofs.ManyShares.{filled_whole}
use Rattle.audit_core.specs.declared.verdict.Silent.{Silent}
use Rattle.audit_core.specs.Verdict.{silent_indexes}
use Rattle.audit_core.proofs.judging.owing_shares.Goals as goal

pub loop-place-preserved : goal.loop-place-preserved
loop-place-preserved c =
    let scheme = c.args.scheme.now in
    let silent = c.args.silent.now in
    let place = c.loop-place.place in
    let owing = c.loop-place.owing.items in
    let held = c.hold.new.self in
    let k : held.k ≡ scheme.k = c.hold.ensures.k ∙ c.in_ok-encoder.ensures.k in
    let size : held.size ≡ scheme.share = c.hold.ensures.size ∙ c.in_ok-encoder.ensures.size in
    let indexes : held.indexes ≡ silent = c.hold.ensures.indexes ∙ c.in_ok-encoder.ensures.indexes in
    let stripe : held.stripe ≡ c.args.stripe.now
    = c.hold.ensures.stripe ∙ ap₂ (λ a b. filled (a * b) c.args.stripe.now) c.in_ok-encoder.ensures.k c.in_ok-encoder.ensures.size
    ∙ filled_whole (scheme.k * scheme.share) c.args.stripe.now c.requires.stripe in
    let index = slice_index silent place in
    let share : c.write_share.new.out ≡ share_of scheme.k scheme.share c.args.stripe.now index
    = c.write_share.ensures
    ∙ ap (λ n. share_of n held.size held.stripe (slice_index held.indexes place)) k
    ∙ ap (λ n. share_of scheme.k n held.stripe (slice_index held.indexes place)) size
    ∙ ap (λ (xs : List ℕ). share_of scheme.k scheme.share xs (slice_index held.indexes place)) stripe
    ∙ ap (λ (xs : List ℕ). share_of scheme.k scheme.share c.args.stripe.now (slice_index xs place)) indexes in
    let expect : c.digest-expect.result ≡ sha256 (share_of scheme.k scheme.share c.args.stripe.now index)
    = c.digest-expect.ensures ∙ ap sha256 share in
    let one : Silent = record { index = index; expect = c.digest-expect.result } in
    let items = c.in_ok-push.ensures.items in
    record {
      indexes = ap silent_indexes items ∙ map-append (λ (s : Silent). s.index) owing (one ∷ [])
          ∙ ap (λ (xs : List ℕ). xs ++ index ∷ []) c.loop-place.invariant.indexes
          ∙ sym (take_more silent place 0 c.loop-place-test.true);
      expects = λ i d within. let all = c.loop-place.invariant.expects i d in grind (arith, elements, all, items, expect);
    }
