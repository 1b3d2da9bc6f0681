use Rattle.std.proofs.Common.{◌≡◌, ◌+◌, ◌-◌, List, ap, ◌∙◌, arith}
use Rattle.std.specs.Prelude.{if◌then◌else◌, ◌==◌}
use Rattle.pay_tables.specs.declared.balance.Balance.{Balance}
use Rattle.pay_tables.specs.Amounts.{amount_at}
use Rattle.pay_tables.proofs.Balanced.{lowered}
use Rattle.pay_tables.proofs.balance.Balances.lower_one.Goals as goal

pub returns-then-has_row-clause-amounts : goal.returns-then-has_row-clause-amounts
returns-then-has_row-clause-amounts c other =
    let rows = c.args.self.now.rows in
    let new : Balance = record { node = c.args.node; amount = c.at.result - c.from.result } in
    let is : c.at.result - c.from.result ≡ amount_at rows c.args.node - c.args.bytes = omega (arith, c.at.ensures, c.from.ensures) in
    ap (λ (t : List Balance). amount_at t other + (if c.args.node.0 == other.0 then c.args.bytes else 0)) c.put.ensures.rows ∙ lowered rows new c.args.bytes other c.requires is
