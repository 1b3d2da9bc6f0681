use Rattle.std.proofs.Common.{◌∙◌}
use Rattle.order_uses.proofs.LoadLemmas.{more_rows, names_first}
use Rattle.order_uses.proofs.loading.read_rows.Goals as goal

pub returns-in_default-clause-bad : goal.returns-in_default-clause-bad
returns-in_default-clause-bad c =
    names_first c.args.key.now c.args.loaded.now c.loop-row.row-index c.row-item.result c.loop-row.table.rows c.bad_row.result
    c.loop-row-test.true c.row-item.is c.loop-row.invariant.are (c.read_use.ensures.only c.in_default.is) c.bad_row.ensures

pub loop-row-preserved : goal.loop-row-preserved
loop-row-preserved c = record {
  are = rw (c.put.ensures.rows, c.reserve.ensures.rows) (more_rows c.args.key.now c.args.loaded.now c.requires c.loop-row.row-index c.row-item.result c.loop-row-test.true c.row-item.is
      c.loop-row.table.rows c.in-Some.one c.in-Some.ensures.found.0 c.in-Some.ensures.found.1 c.in-Some.ensures.serial c.loop-row.invariant.are);
  key = c.put.ensures.key ∙ c.reserve.ensures.key ∙ c.loop-row.invariant.key;
}
