use Rattle.std.proofs.Common.{Err, IfErr, ap, subst, sym, ◌∙◌}
use Rattle.std.proofs.lemmas.Result.{err_from_is_err_and}
use Rattle.record_rows.specs.declared.kind.RowErr.{RowErr}
use Rattle.record_rows.specs.declared.version.Version.TheVariants as versions
use Rattle.record_rows.specs.Versions.{IsCause}
use Rattle.record_rows.proofs.VersionLemmas.{cause_now}
use Rattle.record_rows.proofs.upgrading.stay.Goals as goal

pub returns-in_err-read-clause-cause : goal.returns-in_err-read-clause-cause
returns-in_err-read-clause-cause c =
    let out = err_from_is_err_and c.from_residual.result c.from_residual.ensures.1 in
    subst (λ r. IfErr r (IsCause versions.Two c.args.row.now)) (sym out.1)
    (subst (IsCause versions.Two c.args.row.now) (sym out.2)
    (cause_now c.args.row.now c.in_err-read.field-0.0
    (λ is. c.read.ensures.kind.0 (c.in_err-read.was ∙ ap (λ (why : RowErr). Err why) is))
    (λ is. c.read.ensures.id (c.in_err-read.was ∙ ap (λ (why : RowErr). Err why) is))
    (λ is. c.read.ensures.body (c.in_err-read.was ∙ ap (λ (why : RowErr). Err why) is))))
