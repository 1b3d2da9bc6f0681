use Rattle.std.proofs.Common.{arith}
use Rattle.settlement.specs.Rows.{key}
use Rattle.machine_step.proofs.RowLemmas.{each-with_row}
use Rattle.pay_tables.specs.InStep.{IsSmallOrder}
use Rattle.pay_tables.proofs.Steps.{length-more}
use Rattle.pay_tables.proofs.tables.PayTables.count_order.Goals as goal

pub returns-clause-keeps : goal.returns-clause-keeps
returns-clause-keeps c setup segments settled none fewer step =
    let old = c.args.self.now in
    record {
      sums = c.add_order.ensures.keeps settled old.tallies.rows old.statements.rows none step.sums;
      stored = step.stored;
      pots = step.pots;
      short = step.short;
      small = each-with_row key IsSmallOrder settled c.args.row.now step.small c.add_order.ensures.small;
      few = omega (arith, length-more key settled c.args.row.now, fewer);
      rising = step.rising;
      bytes = step.bytes;
      early = step.early;
    }
