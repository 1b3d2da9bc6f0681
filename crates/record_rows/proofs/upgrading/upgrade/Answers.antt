use Rattle.record_rows.specs.declared.version.Version.TheVariants as versions
use Rattle.record_rows.proofs.VersionLemmas.{upgraded_within}
use Rattle.record_rows.proofs.upgrading.upgrade.Goals as goal

pub returns-in-One-clause-within : goal.returns-in-One-clause-within
returns-in-One-clause-within c = upgraded_within versions.One c.args.row.now c.upgrade_one.result c.upgrade_one.ensures.found

pub returns-in-Two-clause-within : goal.returns-in-Two-clause-within
returns-in-Two-clause-within c = upgraded_within versions.Two c.args.row.now c.stay.result c.stay.ensures.found
