use Rattle.std.proofs.Common.{◌+◌, subst, sym, IfErr, take, drop, arith}
use Rattle.std.proofs.lemmas.Result.{err_from_is_err_and}
use Rattle.sat_base.specs.Rows.{AreInOrder}
use Rattle.record_rows.specs.declared.version.TheConstants.Version.{LATEST}
use Rattle.sat_book.specs.ByKind.{AreRecordsOf}
use Rattle.sat_book.specs.Opened.{NamesFirstIn, Refuses}
use Rattle.sat_book.proofs.SortLemmas.{at_place, cut_at, names_latest, none_behind, none-yet, one-more, rest_in_order, stand_behind}
use Rattle.sat_book.proofs.sorting.sort_rows.Goals as goal

pub returns-in_err-read_into-clause-bad : goal.returns-in_err-read_into-clause-bad
returns-in_err-read_into-clause-bad c =
    let out = err_from_is_err_and c.from_residual.result c.from_residual.ensures.1 in
    subst (λ r. IfErr r (NamesFirstIn LATEST c.args.rows.now)) (sym out.1)
    (names_latest c.loop-row.parts c.args.rows.now c.loop-row.row-index c.row-item.result out.0 c.loop-row.invariant.0
    (at_place c.args.rows.now c.loop-row.row-index c.row-item.result (omega (arith, c.loop-row-test.true)) c.row-item.is)
    (subst (Refuses LATEST c.row-item.result) (sym out.2) c.in_err-read_into.ensures.bad))

pub loop-row-init : goal.loop-row-init
loop-row-init c = (none-yet c.new-parts.result c.new-parts.ensures, c.requires, none_behind c.new-parts.result c.args.rows.now c.new-parts.ensures)

pub loop-row-preserved : goal.loop-row-preserved
loop-row-preserved c =
    let cut = cut_at c.args.rows.now c.loop-row.row-index c.row-item.result
    (at_place c.args.rows.now c.loop-row.row-index c.row-item.result (omega (arith, c.loop-row-test.true)) c.row-item.is) in
    let order = subst AreInOrder cut.1 c.loop-row.invariant.1 in (
      subst (λ rows. AreRecordsOf rows c.read_into.new.parts) (sym cut.0)
          (one-more c.loop-row.parts c.read_into.new.parts (take c.loop-row.row-index c.args.rows.now) c.row-item.result c.loop-row.invariant.0 c.in_ok-read_into.ensures.ok),
      rest_in_order c.row-item.result (drop (c.loop-row.row-index + 1) c.args.rows.now) order,
      stand_behind c.row-item.result (drop (c.loop-row.row-index + 1) c.args.rows.now) c.read_into.new.parts order c.in_ok-read_into.ensures.ok.last,
    )
