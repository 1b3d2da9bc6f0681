use Rattle.std.proofs.Common.{◌∙◌, sym}
use Rattle.settlement.specs.Rows.{key}
use Rattle.machine_store.proofs.NodeLemmas.{with_row-added}
use Rattle.machine_store.proofs.steps.put_row.Goals as goal

pub returns-clause-rows : goal.returns-clause-rows
returns-clause-rows c = c.add.ensures.rows ∙ sym (with_row-added key c.args.row c.args.settled.now.rows c.requires.absent)
