use Rattle.std.proofs.Common.{ap, rules, option_copied}
use Rattle.record_rows.proofs.VersionLemmas.{is_new_first, is_old_first}
use Rattle.record_rows.proofs.version.version_of.Goals as goal

pub returns-in-Ok : goal.returns-in-Ok
returns-in-Ok c =
    is_old_first _ c.in-Some.row.now c.in-Ok.field-0.settings c.in-Ok.field-0.rates (ap option_copied c.in-Some.is) c.in-Ok.ensures.found

pub returns-in-Err : goal.returns-in-Err
returns-in-Err c =
    is_new_first _ c.in-Some.row.now c.in-Err.field-0 (ap option_copied c.in-Some.is) c.in-Err.ensures.cause (search rules)
