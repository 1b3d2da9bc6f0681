use Rattle.std.proofs.Common.{◌≡◌, ◌<◌, ◌+◌, ◌*◌, ℕ, List, length, take, drop, refl, sym, ap, ◌∙◌, subst, arith, slice_index_or}
use Rattle.std.specs.Prelude.{All}
use Rattle.std.proofs.lemmas.List.{length-take-le}
use Rattle.sat_base.specs.declared.items.Share.{Share}
use Rattle.bw_decode.specs.Altered.{indexes_of, is_altered}
use Rattle.bw_decode.specs.Near.{Rises}
use Rattle.bw_decode.proofs.Rounds.{few_answers}
use Rattle.repair_core.specs.Answers.{answers_at}
use Rattle.repair_core.specs.Stripes.{IsStripe, IsNoneNear}
use Rattle.repair_core.specs.Room.{IsMade, IsMended, IsWritten}
use Rattle.repair_core.proofs.Mending.{of_scheme, written, indexes_of-answers_at, fresh_written, still_below, still_long}
use Rattle.repair_core.proofs.stripes.mend.Goals as goal

pub slice_bounds-altered_room-end : goal.slice_bounds-altered_room-end
slice_bounds-altered_room-end c =
    omega (arith, few_answers c.args.scheme.now.n c.args.pieces.now c.requires.rising c.requires.below)

pub slice_bounds-altered-end : goal.slice_bounds-altered-end
slice_bounds-altered-end c =
    sym (length-take-le (length c.args.pieces.now) _
    (omega (arith, few_answers c.args.scheme.now.n c.args.pieces.now c.requires.rising c.requires.below)))

pub decode-nearness-requires-clause-rising : goal.decode-nearness-requires-clause-rising
decode-nearness-requires-clause-rising c =
    let pieces = c.args.pieces.now in
    let long : c.args.room.now.answers.len ≡ length c.fill.new.answers = omega (arith, c.as_mut_slice-places.ensures.len, c.fill.auto.answers) in
    let are : take (length pieces) c.as_slice.result.now ≡ answers_at c.args.scheme.now.share c.args.count c.args.s pieces
    = ap (λ (xs : List Share). take (length pieces) xs) (c.as_slice.ensures.value ∙ written c.fill.new.answers _ _ long)
    ∙ c.fill.ensures.answers ∙ ap (λ size. answers_at size c.args.count c.args.s pieces) c.from-size.ensures in
    subst (λ (xs : List Share). Rises (indexes_of xs)) (sym are)
    (subst Rises (sym (indexes_of-answers_at c.args.scheme.now.share c.args.count c.args.s pieces)) c.requires.rising)

pub decode-nearness-requires-clause-below : goal.decode-nearness-requires-clause-below
decode-nearness-requires-clause-below c =
    let P : List ℕ → Type 0 = λ xs. All (λ index. index < c.args.scheme.now.n) xs in
    let pieces = c.args.pieces.now in
    let long : c.args.room.now.answers.len ≡ length c.fill.new.answers = omega (arith, c.as_mut_slice-places.ensures.len, c.fill.auto.answers) in
    let are : take (length pieces) c.as_slice.result.now ≡ answers_at c.args.scheme.now.share c.args.count c.args.s pieces
    = ap (λ (xs : List Share). take (length pieces) xs) (c.as_slice.ensures.value ∙ written c.fill.new.answers _ _ long)
    ∙ c.fill.ensures.answers ∙ ap (λ size. answers_at size c.args.count c.args.s pieces) c.from-size.ensures in
    subst (λ (xs : List Share). P (indexes_of xs)) (sym are)
    (subst P (sym (indexes_of-answers_at c.args.scheme.now.share c.args.count c.args.s pieces)) c.requires.below)

pub decode-nearness-requires-clause-altered : goal.decode-nearness-requires-clause-altered
decode-nearness-requires-clause-altered c =
    let pieces = c.args.pieces.now in
    let few = few_answers c.args.scheme.now.n pieces c.requires.rising c.requires.below in
    length-take-le (length pieces) _ (omega (arith, few))
    ∙ sym (length-take-le (length pieces) c.as_slice.result.now (omega (arith, c.requires.places, c.as_slice.ensures.len, c.as_mut_slice-places.ensures.len, ap length c.as_mut_slice-places.ensures.value)))

pub mark-requires-clause-below : goal.mark-requires-clause-below
mark-requires-clause-below c =
    let pieces = c.args.pieces.now in
    let long : c.args.room.now.answers.len ≡ length c.fill.new.answers = omega (arith, c.as_mut_slice-places.ensures.len, c.fill.auto.answers) in
    let are : take (length pieces) c.as_slice.result.now ≡ answers_at c.args.scheme.now.share c.args.count c.args.s pieces
    = ap (λ (xs : List Share). take (length pieces) xs) (c.as_slice.ensures.value ∙ written c.fill.new.answers _ _ long)
    ∙ c.fill.ensures.answers ∙ ap (λ size. answers_at size c.args.count c.args.s pieces) c.from-size.ensures in
    let same : indexes_of (take (length pieces) c.as_slice.result.now) ≡ indexes_of pieces
    = ap (λ (xs : List Share). indexes_of xs) are ∙ indexes_of-answers_at c.args.scheme.now.share c.args.count c.args.s pieces in
    let wide : length c.as_mut_slice-then-eq.result.now ≡ 256 = ap length c.as_mut_slice-then-eq.ensures.value ∙ c.requires.made.indexes in
    λ i d h.
    let within : i < length (indexes_of pieces) = omega (arith, h, ap length same) in
    let below : slice_index_or (indexes_of pieces) i d < c.args.scheme.now.n = c.requires.below i d within in
    let at : slice_index_or (indexes_of (take (length pieces) c.as_slice.result.now)) i d ≡ slice_index_or (indexes_of pieces) i d
    = ap (λ (xs : List ℕ). slice_index_or xs i d) same in
    omega (arith, below, at, wide)

pub returns-then-eq-clause-near : goal.returns-then-eq-clause-near
returns-then-eq-clause-near c = λ is.
    let k = c.args.scheme.now.k in
    let size = c.args.scheme.now.share in
    let pieces = c.args.pieces.now in
    let done = c.args.made.now.done in
    let stripe = c.decode-nearness.new.stripe in
    let long : c.args.room.now.answers.len ≡ length c.fill.new.answers = omega (arith, c.as_mut_slice-places.ensures.len, c.fill.auto.answers) in
    let are : take (length pieces) c.as_slice.result.now ≡ answers_at size c.args.count c.args.s pieces
    = ap (λ (xs : List Share). take (length pieces) xs) (c.as_slice.ensures.value ∙ written c.fill.new.answers _ _ long)
    ∙ c.fill.ensures.answers ∙ ap (λ size. answers_at size c.args.count c.args.s pieces) c.from-size.ensures in
    let stripe_len : c.args.room.now.stripe.len ≡ length stripe = omega (arith, c.as_mut_slice-2.ensures.len, c.decode-nearness.auto.stripe) in
    let marks_len : c.args.made.now.marks.len ≡ length c.mark.new.marks = omega (arith, c.as_mut_slice-then-eq.ensures.len, c.mark.auto.marks) in
    let fresh_len : c.args.made.now.fresh.len ≡ length c.write_shares.new.fresh = omega (arith, c.as_mut_slice-fresh.ensures.len, c.write_shares.auto.fresh) in
    let stripe_is = written stripe c.args.room.now.stripe.len (drop (length stripe) c.args.room.now.stripe.items) stripe_len in
    let marks_is = written c.mark.new.marks c.args.made.now.marks.len (drop (length c.mark.new.marks) c.args.made.now.marks.items) marks_len in
    let fresh_is = written c.write_shares.new.fresh c.args.made.now.fresh.len (drop (length c.write_shares.new.fresh) c.args.made.now.fresh.items) fresh_len in
    let shown = c.as_slice-then-eq.ensures.value ∙ stripe_is in
    let made : IsMended k size (answers_at size c.args.count c.args.s pieces) done c.args.made.now.marks.items c.args.made.now.fresh.items stripe c.mark.new.marks c.write_shares.new.fresh
    = record {
      near = subst (λ (xs : List Share). IsStripe k size xs stripe) are (c.decode-nearness.ensures.near is);
      marks_are = λ index. c.mark.ensures (is_altered k size stripe) (c.decode-nearness.ensures.altered is) index
          ∙ rw (c.as_mut_slice-then-eq.ensures.value, are) refl;
      fresh_are = fresh_written k size done stripe c.args.made.now.fresh.items c.write_shares.new.fresh
          (c.write_shares.auto.fresh ∙ ap length c.as_mut_slice-fresh.ensures.value)
          (subst (λ (xs : List Share). (i : ℕ) (d : Share) → i < length xs → IsWritten k size done stripe (slice_index_or xs i d) (slice_index_or c.write_shares.new.fresh i d)) c.as_mut_slice-fresh.ensures.value
          (subst (λ (xs : List ℕ). (i : ℕ) (d : Share) → i < length c.as_mut_slice-fresh.result.now → IsWritten k size done xs (slice_index_or c.as_mut_slice-fresh.result.now i d) (slice_index_or c.write_shares.new.fresh i d)) shown
          (of_scheme k size done c.args.made.now.encoder c.as_slice-then-eq.result.now c.args.made.now.fresh.items c.as_mut_slice-fresh.result.now c.write_shares.new.fresh c.requires.encoder c.write_shares.ensures.written)));
    } in
    rw (stripe_is, marks_is, fresh_is) made

pub returns-then-eq-clause-made : goal.returns-then-eq-clause-made
returns-then-eq-clause-made c = λ is.
    let k = c.args.scheme.now.k in
    let size = c.args.scheme.now.share in
    let done = c.args.made.now.done in
    let old = c.args.made.now.fresh.items in
    let new = c.write_shares.new.fresh in
    let stripe = c.as_slice-then-eq.result.now in
    let marks_len : c.args.made.now.marks.len ≡ length c.mark.new.marks = omega (arith, c.as_mut_slice-then-eq.ensures.len, c.mark.auto.marks) in
    let fresh_len : c.args.made.now.fresh.len ≡ length new = omega (arith, c.as_mut_slice-fresh.ensures.len, c.write_shares.auto.fresh) in
    let marks_is = written c.mark.new.marks c.args.made.now.marks.len (drop (length c.mark.new.marks) c.args.made.now.marks.items) marks_len in
    let fresh_is = written new c.args.made.now.fresh.len (drop (length new) c.args.made.now.fresh.items) fresh_len in
    let same = c.write_shares.auto.fresh ∙ ap length c.as_mut_slice-fresh.ensures.value in
    let each = subst (λ (xs : List Share). (i : ℕ) (d : Share) → i < length xs → IsWritten k size done stripe (slice_index_or xs i d) (slice_index_or new i d)) c.as_mut_slice-fresh.ensures.value
    (of_scheme k size done c.args.made.now.encoder stripe old c.as_mut_slice-fresh.result.now new c.requires.encoder c.write_shares.ensures.written) in
    let made : IsMade size c.args.scheme.now.n c.args.made.now.whole (done + 1) c.mark.new.marks new
    = record {
      indexes = c.mark.auto.marks ∙ ap length c.as_mut_slice-then-eq.ensures.value ∙ c.requires.made.indexes;
      below = still_below k size done c.args.scheme.now.n stripe old new same each c.requires.made.below;
      long = still_long k size done (c.args.made.now.whole * size) stripe old new same each c.requires.made.long;
      within = omega (arith, c.requires.left);
      few = c.requires.made.few;
    } in
    rw (marks_is, fresh_is) made

pub returns-else-eq-clause-unclear : goal.returns-else-eq-clause-unclear
returns-else-eq-clause-unclear c = λ is.
    let k = c.args.scheme.now.k in
    let size = c.args.scheme.now.share in
    let pieces = c.args.pieces.now in
    let long : c.args.room.now.answers.len ≡ length c.fill.new.answers = omega (arith, c.as_mut_slice-places.ensures.len, c.fill.auto.answers) in
    let are : take (length pieces) c.as_slice.result.now ≡ answers_at size c.args.count c.args.s pieces
    = ap (λ (xs : List Share). take (length pieces) xs) (c.as_slice.ensures.value ∙ written c.fill.new.answers _ _ long)
    ∙ c.fill.ensures.answers ∙ ap (λ size. answers_at size c.args.count c.args.s pieces) c.from-size.ensures in
    subst (λ (xs : List Share). IsNoneNear k size xs) are (c.decode-nearness.ensures.unclear is)
