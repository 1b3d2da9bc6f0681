use Rattle.std.proofs.Common.{◌≡◌, ℕ, ◌<◌, ◌^◌, false, inl, inr, get_or, take, sym, ap, subst, ◌∙◌, arith}
use Rattle.std.specs.Prelude.{◌==◌}
use Rattle.std.proofs.lemmas.Bool.Decides.{nat_tests}
use Rattle.std.proofs.lemmas.List.Folds.{list_any_more}
use Rattle.std.proofs.lemmas.Bool.{or_cases}
use Rattle.sat_base.specs.declared.records.At.{At}
use Rattle.segment_index.specs.declared.pairs.Pair.{Pair}
use Rattle.segment_index.specs.Indexed.{has_room}
use Rattle.segment_index.specs.Keys.{has_piece}
use Rattle.segment_index.specs.Pairs.{has, pair_rank}
use Rattle.segment_index.proofs.Moves.{rank_low}
use Rattle.segment_index.proofs.moving.release_pieces.Goals as goal

pub loop-piece-preserved : goal.loop-piece-preserved
loop-piece-preserved c =
    let no_piece : At = record { index = 0; node = record { 0 = 0 } } in
    let here = (get_or c.args.pieces.now c.loop-piece.piece-index no_piece).node.0 in
    let id : c.args.id < 2 ^ 64 = omega arith in
    record {
      pairs = c.release.ensures.pairs ∙ c.loop-piece.invariant.pairs;
      room = λ node other low apart had. c.release.ensures.others _ (c.loop-piece.invariant.room node other low apart had) (λ e.
          let equal : pair_rank (record { high = node; low = other }) ≡ pair_rank (record { high = here; low = c.args.id }) = rw (← c.pair_at.ensures) e in
          apart (rank_low (record { high = node; low = other }) (record { high = here; low = c.args.id }) low id equal));
      gone = λ node lies none.
          elim (or_cases (has_piece node (take c.loop-piece.piece-index c.args.pieces.now)) (here == node)
          (sym (list_any_more (λ (piece : At). piece.node.0 == node) c.args.pieces.now c.loop-piece.piece-index no_piece c.loop-piece-test.true) ∙ lies)) [
            | inl before ↦ c.release.ensures.fewer _ (c.loop-piece.invariant.gone node before none)
            | inr now ↦
                let same : here ≡ node = grind (arith, nat_tests, now) in
                let absent : has c.loop-piece.by_node.rows (record { high = node; low = c.args.id }) ≡ false = rw c.loop-piece.invariant.pairs none in
                let pair : c.pair_at.result ≡ record { high = node; low = c.args.id } = c.pair_at.ensures ∙ ap (λ (n : ℕ). record { high = n; low = c.args.id }) same in
                subst (λ (p : Pair). has_room c.release.new.self.slots (pair_rank p) ≡ false) pair
                (c.release.ensures.gone (subst (λ (p : Pair). has c.loop-piece.by_node.rows p ≡ false) (sym pair) absent))
          ];
      fewer = λ rank none. c.release.ensures.fewer rank (c.loop-piece.invariant.fewer rank none);
    }
