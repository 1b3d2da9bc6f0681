use Rattle.std.proofs.Common.{◌≡◌, take}
use Rattle.pay_tables.specs.Amounts.{amounts_of}
use Rattle.pay_tables.proofs.tables.PayTables.pots_of.Given as goal

abbrev pub invariant-loop-node : goal.invariant-loop-node
invariant-loop-node l = l.pots.items ≡ amounts_of l.self.pots.rows (take l.node-index l.nodes)
