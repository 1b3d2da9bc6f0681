use Rattle.order_uses.proofs.IndexLemmas.{table_none}
use Rattle.order_uses.proofs.table.UseTable.new.Goals as goal

pub invariant_of-result : goal.invariant_of-result
invariant_of-result c = table_none c.args.key _ _ _ _ c.new.ensures.rows
