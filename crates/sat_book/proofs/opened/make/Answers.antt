use Rattle.std.proofs.Common.{refl, sym, subst, IfErr}
use Rattle.std.proofs.lemmas.Result.{err_from_is_err_and}
use Rattle.sat_book.specs.Openings.{IsNone}
use Rattle.sat_book.proofs.OpeningLemmas.{none_of_parts, ready_of}
use Rattle.sat_book.proofs.PartLemmas.{parts_fine}
use Rattle.sat_book.proofs.opened.make.Goals as goal

pub new-requires : goal.new-requires
new-requires c =
    let are = c.requires.sorted.1 in
    parts_fine c.ids_stand_in_order.ensures c.args.sorted.rows c.args.sorted.parts are.records are.ordered

pub returns-in_err-core-clause-bad : goal.returns-in_err-core-clause-bad
returns-in_err-core-clause-bad c = λ loaded are.
    let out = err_from_is_err_and c.from_residual.result c.from_residual.ensures.1 in
    subst (λ r. IfErr r (IsNone loaded)) (sym out.1)
    (subst (IsNone loaded) (sym out.2) (none_of_parts loaded c.args.sorted are c.in_err-core.field-0.0 c.in_err-core.ensures.rules))

pub returns-in_err-history-clause-bad : goal.returns-in_err-history-clause-bad
returns-in_err-history-clause-bad c = λ loaded are.
    let out = err_from_is_err_and c.from_residual-in_err-history.result c.from_residual-in_err-history.ensures.1 in
    subst (λ r. IfErr r (IsNone loaded)) (sym out.1) (subst (IsNone loaded) (sym out.2) tt)

pub returns-clause-ok : goal.returns-clause-ok
returns-clause-ok c = λ loaded are.
    ready_of c.ids_stand_in_order.ensures loaded c.args.term c.args.sorted _ are refl refl
    c.in_ok-core.ensures.tables c.marks-marks.ensures.valid c.in_ok-core.ensures.pending c.in_ok-history.ensures.none c.in_ok-history.ensures.room
