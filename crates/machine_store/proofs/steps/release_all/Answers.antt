use Rattle.std.proofs.Common.{◌++◌, ◌∷◌, [], take, subst, sym, ◌∙◌}
use Rattle.std.proofs.lemmas.List.{take_all, take_more}
use Rattle.rows.specs.Rows.{Each}
use Rattle.machine_store.specs.Freed.{HasNoRoom}
use Rattle.machine_store.proofs.FreedLemmas.{each-kept, each-freed}
use Rattle.machine_store.proofs.steps.release_all.Goals as goal

pub loop-change-preserved : goal.loop-change-preserved
loop-change-preserved c =
    let new = c.release.new.store in
    let so_far = take c.loop-change.change-index c.args.changes.now in
    let kept = each-kept c.loop-change.store new c.release.ensures.tables c.release.ensures.index c.release.ensures.rows c.release.ensures.fewer so_far c.loop-change.invariant.freed in
    let more = each-freed new so_far _ kept c.release.ensures.freed in
    record {
      tables = c.release.ensures.tables ∙ c.loop-change.invariant.tables;
      own = λ own. c.release.ensures.own (c.loop-change.invariant.own own);
      freed = subst (λ cs. Each (HasNoRoom new) cs) (sym (take_more c.args.changes.now c.loop-change.change-index c.change-item.result c.loop-change-test.true))
          (subst (λ x. Each (HasNoRoom new) (so_far ++ x ∷ [])) c.change-item.is more);
    }

pub returns-clause-freed : goal.returns-clause-freed
returns-clause-freed c = subst (λ cs. Each (HasNoRoom c.loop-change.store) cs) (take_all c.loop-change.change-index c.args.changes.now c.loop-change-test.false) c.loop-change.invariant.freed
