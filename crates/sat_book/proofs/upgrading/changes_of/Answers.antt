use Rattle.std.proofs.Common.{subst, sym, IfErr, take, arith}
use Rattle.std.proofs.lemmas.Result.{err_from_is_err_and}
use Rattle.sat_book.specs.Opened.{AreChanges, NamesFirstIn, Refuses}
use Rattle.sat_book.proofs.SortLemmas.{at_place, cut_at}
use Rattle.sat_book.proofs.UpgradeLemmas.{changes-one, names_refused}
use Rattle.sat_book.proofs.upgrading.changes_of.Goals as goal

pub returns-in_err-upgrade_row-clause-bad : goal.returns-in_err-upgrade_row-clause-bad
returns-in_err-upgrade_row-clause-bad c =
    let out = err_from_is_err_and c.from_residual.result c.from_residual.ensures.1 in
    subst (λ r. IfErr r (NamesFirstIn c.args.version c.args.rows.now)) (sym out.1)
    (names_refused c.args.version c.args.rows.now c.loop-row.row-index c.row-item.result c.loop-row.changes.items out.0 c.loop-row.invariant
    (at_place c.args.rows.now c.loop-row.row-index c.row-item.result (omega (arith, c.loop-row-test.true)) c.row-item.is)
    (subst (Refuses c.args.version c.row-item.result) (sym out.2) c.in_err-upgrade_row.ensures.bad))

pub loop-row-preserved : goal.loop-row-preserved
loop-row-preserved c =
    let cut = cut_at c.args.rows.now c.loop-row.row-index c.row-item.result
    (at_place c.args.rows.now c.loop-row.row-index c.row-item.result (omega (arith, c.loop-row-test.true)) c.row-item.is) in
    subst (λ rows. AreChanges c.args.version rows c.upgrade_row.new.changes.items) (sym cut.0)
    (changes-one c.args.version (take c.loop-row.row-index c.args.rows.now) c.row-item.result c.loop-row.changes.items c.upgrade_row.new.changes.items
    c.loop-row.invariant c.in_ok-upgrade_row.ensures.ok)
