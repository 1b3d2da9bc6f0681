use Rattle.std.proofs.Common.{◌≡◌, ℕ, ◌<◌, ◌^◌, true, false, sym, ◌∙◌, subst, arith, get_or, take}
use Rattle.std.specs.Prelude.{◌==◌}
use Rattle.std.proofs.lemmas.List.Folds.{list_any_more}
use Rattle.sat_base.specs.declared.records.At.{At}
use Rattle.segment_index.specs.Keys.{has_piece}
use Rattle.segment_index.specs.Pairs.{has, pair_rank}
use Rattle.segment_index.proofs.Moves.{rank_high, rank_low, dropped, left_in}
use Rattle.segment_index.proofs.moving.drop_pieces.Goals as goal
use Rattle.segment_index.proofs.moving.drop_pieces.Goals.{then-not-has_piece, else-not-has_piece}

pub loop-piece-preserved : goal.loop-piece-preserved
loop-piece-preserved c =
    let no_piece : At = record { index = 0; node = record { 0 = 0 } } in
    let pieces = c.args.pieces.now in
    let stay = c.args.stay.now in
    let at = c.loop-piece.piece-index in
    let here = (get_or pieces at no_piece).node.0 in
    let id : c.args.id < 2 ^ 64 = omega arith in
    elim c.if-not-has_piece.branch [
      | then-not-has_piece w ↦ record {
        pairs = λ node other. rw (w.by_node-is, list_any_more (λ (piece : At). piece.node.0 == node) pieces at no_piece c.loop-piece-test.true)
            (dropped here node c.args.id other (has_piece node (take at pieces)) (has_piece node stay) (has c.args.by_node.now.rows (record { high = node; low = other }))
            (has c.loop-piece.by_node.rows (record { high = node; low = other })) (has w.remove.new.self.rows (record { high = node; low = other }))
            (λ e. subst (λ (n : ℕ). has_piece n stay ≡ false) e (sym c.has_piece.ensures ∙ w.if-not-has_piece.true))
            (c.loop-piece.invariant.pairs node other)
            (rw w.pair_at.ensures at (w.remove.ensures.pairs (record { high = node; low = other }))));
        room = λ node other low keep had. rw w.by_node-is (w.remove.ensures.others _ (c.loop-piece.invariant.room node other low keep had) (λ e.
            let equal : pair_rank (record { high = node; low = other }) ≡ pair_rank (record { high = here; low = c.args.id }) = rw (← w.pair_at.ensures) e in
            let same : node ≡ here = rank_high (record { high = node; low = other }) (record { high = here; low = c.args.id }) low id equal in
            let stays : has_piece here stay ≡ true = subst (λ (n : ℕ). has_piece n stay ≡ true) same (keep (rank_low (record { high = node; low = other }) (record { high = here; low = c.args.id }) low id equal)) in
            let gone : has_piece here stay ≡ false = sym c.has_piece.ensures ∙ w.if-not-has_piece.true in
            cc (stays, gone)));
      }
      | else-not-has_piece w ↦ record {
        pairs = λ node other. rw (w.by_node-is, list_any_more (λ (piece : At). piece.node.0 == node) pieces at no_piece c.loop-piece-test.true)
            (left_in here node c.args.id other (has_piece node (take at pieces)) (has_piece node stay) (has c.args.by_node.now.rows (record { high = node; low = other }))
            (has c.loop-piece.by_node.rows (record { high = node; low = other }))
            (λ e. subst (λ (n : ℕ). has_piece n stay ≡ true) e (sym c.has_piece.ensures ∙ w.if-not-has_piece.false))
            (c.loop-piece.invariant.pairs node other));
        room = λ node other low keep had. rw w.by_node-is (c.loop-piece.invariant.room node other low keep had);
      }
    ]
