use Rattle.std.proofs.Common.{take}
use Rattle.pay_tables.specs.Amounts.{GoByStatements}
use Rattle.pay_tables.proofs.opening.pots_left.Given as goal

abbrev pub invariant-loop-statement : goal.invariant-loop-statement
invariant-loop-statement l = GoByStatements l.pots.rows (take l.statement-index l.statements)
