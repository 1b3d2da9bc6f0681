use Rattle.std.proofs.Common.{List, ap, ◌∙◌}
use Rattle.std.specs.Prelude.{get_or}
use Rattle.std.proofs.lemmas.Option.{slice_get-get_or}
use Rattle.month_sums.specs.declared.sums.OpenSums.{OpenSums}
use Rattle.month_sums.specs.Open.{sums_at}
use Rattle.pay_tables.proofs.Steps.{stated-sums, no_statement}
use Rattle.pay_tables.proofs.opening.drop_stated.Goals as goal

pub loop-statement-preserved : goal.loop-statement-preserved
loop-statement-preserved c node month still =
    let statements = c.args.statements.now in
    let i = c.loop-statement.statement-index in
    let got = slice_get-get_or statements i no_statement c.loop-statement-test.true in
    ap (λ (rows : List OpenSums). sums_at rows month node) c.remove.ensures.rows
    ∙ (stated-sums c.loop-statement.counted.rows statements i (get_or statements i no_statement) c.rank.result month node still got c.rank.ensures
    ∙ c.loop-statement.invariant node month still)
