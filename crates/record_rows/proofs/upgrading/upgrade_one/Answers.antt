use Rattle.std.proofs.Common.{subst, sym, arith}
use Rattle.record_rows.specs.declared.version.Version.TheVariants as versions
use Rattle.record_rows.specs.Versions.{IsReplaced}
use Rattle.record_rows.proofs.VersionLemmas.{refused_then, replaced_old, stays_then}
use Rattle.record_rows.proofs.upgrading.upgrade_one.Goals as goal

pub returns-in_ok-read_settings-in-1-clause-found : goal.returns-in_ok-read_settings-in-1-clause-found
returns-in_ok-read_settings-in-1-clause-found c =
    let old = c.in_ok-read_settings-in-1.field-0 in
    subst (IsReplaced versions.One c.args.row.now) (sym c.upgrade_settings.ensures) (replaced_old c.args.row.now old.settings old.rates c.in_ok-read_settings-in-1.ensures.found)

pub returns-in_default-clause-found : goal.returns-in_default-clause-found
returns-in_default-clause-found c =
    stays_then c.args.row.now (λ settings. absurd (omega (arith, settings))) (λ tariff. absurd (omega (arith, tariff))) c.stay.result c.stay.ensures.found

pub returns-in_default-clause-cause : goal.returns-in_default-clause-cause
returns-in_default-clause-cause c =
    refused_then c.args.row.now (λ settings. absurd (omega (arith, settings))) (λ tariff. absurd (omega (arith, tariff))) c.stay.result c.stay.ensures.cause
