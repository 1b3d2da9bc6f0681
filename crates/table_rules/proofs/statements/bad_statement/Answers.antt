use Rattle.std.proofs.Common.{◌∙◌}
use Rattle.table_rules.proofs.StatementLemmas.{by_all}
use Rattle.table_rules.proofs.statements.bad_statement.Goals as goal

pub returns : goal.returns
returns c l is =
    let are = c.as_slice.ensures.value ∙ c.in_ok-sums.ensures.sums in
    let rows = c.args.rows.now in
    c.first_broken.ensures l
    (by_all l c.args.settings.now c.args.marks.now rows.nodes.now rows.statements.now rows.counted.now.rows rows.left.now.rows rows.tariffs.now c.as_slice.result.now is are c.in_ok-sums.ensures.low)
