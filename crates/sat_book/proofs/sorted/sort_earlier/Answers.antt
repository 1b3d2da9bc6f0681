use Rattle.std.proofs.Common.{refl, sym, subst, IfErr}
use Rattle.std.proofs.lemmas.Result.{err_from_is_err_and}
use Rattle.record_rows.specs.declared.version.TheConstants.Version.{LATEST}
use Rattle.sat_base.specs.Rows.{AreThe, changed, rows_of}
use Rattle.sat_book.specs.ByKind.{AreRecordsOf}
use Rattle.sat_book.specs.Opened.{AreChanges, NamesFirst, NamesFirstIn}
use Rattle.sat_book.proofs.UpgradeLemmas.{names_loaded, names_none, sorted_upgraded}
use Rattle.sat_book.proofs.sorted.sort_earlier.Goals as goal

pub returns-in_err-changes-clause-bad : goal.returns-in_err-changes-clause-bad
returns-in_err-changes-clause-bad c =
    let out = err_from_is_err_and c.from_residual.result c.from_residual.ensures.1 in
    subst (λ r. IfErr r (NamesFirst c.args.loaded)) (sym out.1)
    (names_loaded c.args.version c.args.loaded c.requires.order c.requires.version out.0
    (subst (λ rows. NamesFirstIn c.args.version rows out.0) c.as_slice.ensures (subst (NamesFirstIn c.args.version c.as_slice.result.now) (sym out.2) c.in_err-changes.ensures.bad)))

pub returns-in_err-parts-clause-bad : goal.returns-in_err-parts-clause-bad
returns-in_err-parts-clause-bad c =
    let out = err_from_is_err_and c.from_residual-in_err-parts.result c.from_residual-in_err-parts.ensures.1 in
    let laws = c.versions_are_told_apart.ensures in
    subst (λ r. IfErr r (NamesFirst c.args.loaded)) (sym out.1)
    (names_none laws.keyed laws.within c.args.version c.args.loaded c.in_ok-rows.rows c.in_ok-changes.changes.items c.requires.order c.in_ok-rows.ensures.ordered
    (subst (λ rows. AreChanges c.args.version rows c.in_ok-changes.changes.items) c.as_slice.ensures c.in_ok-changes.ensures.ok)
    (subst (λ cs. AreThe (changed cs (rows_of c.args.loaded)) c.in_ok-rows.rows) c.deref.ensures.value c.in_ok-rows.ensures.are) out.0
    (subst (λ rows. NamesFirstIn LATEST rows out.0) c.as_slice-2.ensures (subst (NamesFirstIn LATEST c.as_slice-2.result.now) (sym out.2) c.in_err-parts.ensures.bad)))

pub returns-clause-ok : goal.returns-clause-ok
returns-clause-ok c =
    sorted_upgraded c.args.version c.args.loaded c.in_ok-rows.rows _ c.requires.order c.requires.version c.requires.earlier
    (subst (λ rows. AreChanges c.args.version rows c.in_ok-changes.changes.items) c.as_slice.ensures c.in_ok-changes.ensures.ok)
    (subst (λ cs. AreThe (changed cs (rows_of c.args.loaded)) c.in_ok-rows.rows) c.deref.ensures.value c.in_ok-rows.ensures.are)
    c.in_ok-rows.ensures.ordered (subst (λ rows. AreRecordsOf rows c.in_ok-parts.parts) c.as_slice-2.ensures c.in_ok-parts.ensures.ok) refl
