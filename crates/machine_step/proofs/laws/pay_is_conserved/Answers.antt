use Rattle.month_pay.proofs.Conserved.{all_whole, node_conserved}
use Rattle.machine_step.specs.Tables.{ledger_of}
use Rattle.machine_step.proofs.Paid.{statements_of}
use Rattle.machine_step.proofs.laws.pay_is_conserved.Goals as goal

pub returns-clause-whole : goal.returns-clause-whole
returns-clause-whole c t v = all_whole t.setup.caps.statements (ledger_of t) (statements_of t v).rule

pub returns-clause-node : goal.returns-clause-node
returns-clause-node c t node v = let hold = statements_of t v in node_conserved t.setup.caps.statements (ledger_of t) node hold.rule hold.rising
