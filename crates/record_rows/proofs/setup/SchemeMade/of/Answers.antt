use Rattle.std.proofs.Common.{◌∙◌}
use Rattle.record_rows.proofs.SchemeLemmas.{checked}
use Rattle.record_rows.proofs.setup.SchemeMade.of.Goals as goal

pub returns-clause-only : goal.returns-clause-only
returns-clause-only c x fits same =
    c.ok.ensures.value ∙ checked c.check.result x c.args.given c.check.ensures.ok c.check.ensures.numbers same
