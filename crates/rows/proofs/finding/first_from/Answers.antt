use Rattle.std.proofs.Common.{sym, ◌∙◌}
use Rattle.rows.proofs.BlockLemmas.{first_at}
use Rattle.rows.proofs.finding.first_from.Goals as goal

pub returns-then-at-blocks : goal.returns-then-at-blocks
returns-then-at-blocks g c = c.first.ensures ∙ sym (first_at c.args.blocks.now c.args.at c.index-blocks-at.result c.if-at-blocks.true c.index-blocks-at.is c.requires)
