use Rattle.std.proofs.Common.{◌++◌, ◌∷◌, [], take, subst, sym, ◌∙◌, arith}
use Rattle.std.proofs.lemmas.List.{take_all, take_more}
use Rattle.machine_store.specs.Store.{tables_of, IsPlaceable, ArePlaceable, ArePlaced}
use Rattle.machine_store.proofs.StoreLemmas.{placed-kept, placed-more, placeable-at, take-drop-at}
use Rattle.machine_store.proofs.steps.place_all.Goals as goal

pub loop-change-preserved : goal.loop-change-preserved
loop-change-preserved c =
    let so_far = take c.loop-change.change-index c.args.changes.now in
    let more = placed-more c.place.new.store so_far _ (placed-kept c.loop-change.store c.place.new.store _ c.in_ok-place.ensures.keeps c.loop-change.invariant.placed) c.in_ok-place.ensures.placed in
    record {
      losses = omega (arith, c.in_ok-place.ensures.losses, c.loop-change.invariant.losses);
      tables = c.in_ok-place.ensures.tables ∙ c.loop-change.invariant.tables;
      own = c.in_ok-place.ensures.own;
      placed = subst (λ cs. ArePlaced c.place.new.store cs) (sym (take_more c.args.changes.now c.loop-change.change-index c.change-item.result c.loop-change-test.true))
          (subst (λ x. ArePlaced c.place.new.store (so_far ++ x ∷ [])) c.change-item.is more);
    }

pub place-requires-clause-placeable : goal.place-requires-clause-placeable
place-requires-clause-placeable c =
    let split = take-drop-at c.args.changes.now c.loop-change.change-index c.change-item.result c.loop-change-test.true in
    let all = subst (λ cs. ArePlaceable (tables_of c.args.store.now) cs) (sym split) c.requires.placeable in
    let here = placeable-at (tables_of c.args.store.now) (take c.loop-change.change-index c.args.changes.now) _ _ all in
    subst (λ t. IsPlaceable t c.change-item.result) (sym c.loop-change.invariant.tables) (subst (λ x. IsPlaceable (tables_of c.args.store.now) x) (sym c.change-item.is) here)

pub returns-clause-room : goal.returns-clause-room
returns-clause-room c =
    record {
      placed = subst (λ cs. ArePlaced c.loop-change.store cs) (take_all c.loop-change.change-index c.args.changes.now c.loop-change-test.false) c.loop-change.invariant.placed;
      losses = c.loop-change.invariant.losses;
    }
