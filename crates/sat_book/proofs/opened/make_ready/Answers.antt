use Rattle.std.proofs.Common.{Err, sym, ap, subst, ◌∙◌, IfErr}
use Rattle.std.proofs.lemmas.Result.{err_from_is_err_and}
use Rattle.sat_book.specs.Opened.{NamesFirst}
use Rattle.sat_book.specs.Openings.{IsNone, Puts, Refuses}
use Rattle.sat_book.proofs.OpeningLemmas.{none_of_rows, refuse_none, refuse_put, take}
use Rattle.sat_book.proofs.opened.make_ready.Goals as goal

pub returns-in_err-sorted-clause-bad : goal.returns-in_err-sorted-clause-bad
returns-in_err-sorted-clause-bad g c =
    let out = err_from_is_err_and c.from_residual-in_err-sorted.result c.from_residual-in_err-sorted.ensures.1 in
    subst (λ r. IfErr r (Refuses g.K.Keeper.about c.args.keeper.now c.load.new.keeper)) (sym out.1)
    (refuse_none g.K.Keeper.about g.met.K.Keeper.leaves_no_other c.args.keeper.now c.load.new.keeper c.in_ok-loaded.loaded out.0 c.in_ok-loaded.ensures.ok
    (none_of_rows c.in_ok-loaded.loaded out.0 (subst (NamesFirst c.in_ok-loaded.loaded) (sym out.2) c.in_err-sorted.ensures.bad)))

pub returns-in_err-ready-clause-bad : goal.returns-in_err-ready-clause-bad
returns-in_err-ready-clause-bad g c =
    let out = err_from_is_err_and c.from_residual-in_err-ready.result c.from_residual-in_err-ready.ensures.1 in
    subst (λ r. IfErr r (Refuses g.K.Keeper.about c.args.keeper.now c.load.new.keeper)) (sym out.1)
    (refuse_none g.K.Keeper.about g.met.K.Keeper.leaves_no_other c.args.keeper.now c.load.new.keeper c.in_ok-loaded.loaded out.0 c.in_ok-loaded.ensures.ok
    (subst (IsNone c.in_ok-loaded.loaded) (sym out.2) (c.in_err-ready.ensures.bad c.in_ok-loaded.loaded c.in_ok-sorted.ensures.ok)))

pub returns-in_err-put_all-clause-bad : goal.returns-in_err-put_all-clause-bad
returns-in_err-put_all-clause-bad g c =
    let out = err_from_is_err_and c.from_residual-in_err-put_all.result c.from_residual-in_err-put_all.ensures.1 in
    subst (λ r. IfErr r (Refuses g.K.Keeper.about c.args.keeper.now c.put_all.new.keeper)) (sym out.1)
    (refuse_put g.K.Keeper.about g.met.K.Keeper.leaves_no_other c.args.keeper.now c.load.new.keeper c.put_all.new.keeper c.in_ok-loaded.loaded c.args.term c.in_ok-ready.ready out.0
    c.in_ok-loaded.ensures.ok (c.in_ok-ready.ensures.ok c.in_ok-loaded.loaded c.in_ok-sorted.ensures.ok)
    (subst (λ r. Puts g.K.Keeper.about c.in_ok-ready.ready.changes.items c.load.new.keeper c.put_all.new.keeper r) (c.in_err-put_all.was ∙ ap (λ why. Err why) (sym out.2))
    (subst (λ cs. Puts g.K.Keeper.about cs c.load.new.keeper c.put_all.new.keeper c.put_all.result) c.deref.ensures.value c.put_all.ensures)))

pub returns-clause-ok : goal.returns-clause-ok
returns-clause-ok g c =
    take g.K.Keeper.about g.met.K.Keeper.leaves_no_other c.args.keeper.now c.load.new.keeper c.put_all.new.keeper c.in_ok-loaded.loaded c.args.term c.in_ok-ready.ready
    c.in_ok-loaded.ensures.ok (c.in_ok-ready.ensures.ok c.in_ok-loaded.loaded c.in_ok-sorted.ensures.ok)
    (subst (λ r. Puts g.K.Keeper.about c.in_ok-ready.ready.changes.items c.load.new.keeper c.put_all.new.keeper r) c.in_ok-put_all.was
    (subst (λ cs. Puts g.K.Keeper.about cs c.load.new.keeper c.put_all.new.keeper c.put_all.result) c.deref.ensures.value c.put_all.ensures))
