use Rattle.std.proofs.Common.{refl, sym, subst, IfErr}
use Rattle.std.proofs.lemmas.Result.{err_from_is_err_and}
use Rattle.record_rows.specs.declared.version.TheConstants.Version.{LATEST}
use Rattle.sat_book.specs.ByKind.{AreRecordsOf}
use Rattle.sat_book.specs.Opened.{NamesFirst, NamesFirstIn}
use Rattle.sat_book.proofs.UpgradeLemmas.{names_loaded, sorted_same}
use Rattle.sat_book.proofs.sorted.sort_latest.Goals as goal

pub returns-in_err-parts-clause-bad : goal.returns-in_err-parts-clause-bad
returns-in_err-parts-clause-bad c =
    let out = err_from_is_err_and c.from_residual.result c.from_residual.ensures.1 in
    subst (λ r. IfErr r (NamesFirst c.args.loaded)) (sym out.1)
    (names_loaded LATEST c.args.loaded c.requires.order c.requires.version out.0
    (subst (λ rows. NamesFirstIn LATEST rows out.0) c.as_slice.ensures (subst (NamesFirstIn LATEST c.as_slice.result.now) (sym out.2) c.in_err-parts.ensures.bad)))

pub returns-clause-ok : goal.returns-clause-ok
returns-clause-ok c =
    sorted_same c.args.loaded _ c.requires.order c.requires.version c.new.ensures.items
    (subst (λ rows. AreRecordsOf rows c.in_ok-parts.parts) c.as_slice.ensures c.in_ok-parts.ensures.ok) refl
