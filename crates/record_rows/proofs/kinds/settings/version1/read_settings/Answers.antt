use Rattle.std.proofs.Common.{◌≡◌, ◌∙◌, sym, subst, arith, IfErr}
use Rattle.std.proofs.lemmas.Grind.{common_steps}
use Rattle.record_rows.specs.declared.version.Version.TheVariants as versions
use Rattle.record_rows.specs.Versions.{IsCause}
use Rattle.record_rows.proofs.VersionLemmas.{made_or, no_old_body, old_fields, old_fields_fit}
use Rattle.record_rows.proofs.kinds.settings.version1.read_settings.Goals as goal

pub returns-in-Ok-clause-cause : goal.returns-in-Ok-clause-cause
returns-in-Ok-clause-cause c =
    subst (λ r. IfErr r (IsCause versions.One c.args.row.now)) (sym c.ok_or.ensures.value)
    (made_or c.args.row.now c.of.result (λ none. no_old_body c.args.row.now c.requires (grind (arith, common_steps)) (λ s r fits within same.
    let read = c.read_whole.ensures.only (old_fields s r) (old_fields_fit s r fits within) (c.as_slice.ensures ∙ same) in
    let fields : old_fields s r ≡ c.in-Ok.fields = grind (arith, read) in
    let made = c.of.ensures.only (record { settings = s; rates = r }) fits.vetting fields in
    cc)))

pub returns-in-Err-Form-clause-cause : goal.returns-in-Err-Form-clause-cause
returns-in-Err-Form-clause-cause c =
    no_old_body c.args.row.now c.requires (grind (arith, common_steps)) (λ s r fits within same.
    let read = c.read_whole.ensures.only (old_fields s r) (old_fields_fit s r fits within) (c.as_slice.ensures ∙ same) in
    grind (arith, read))
