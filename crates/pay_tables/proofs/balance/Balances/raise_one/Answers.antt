use Rattle.std.proofs.Common.{◌≡◌, ◌+◌, List, ap, ◌∙◌, arith}
use Rattle.pay_tables.specs.declared.balance.Balance.{Balance}
use Rattle.pay_tables.specs.Amounts.{amount_at}
use Rattle.pay_tables.proofs.Balanced.{raised}
use Rattle.pay_tables.proofs.balance.Balances.raise_one.Goals as goal

pub returns-clause-amounts : goal.returns-clause-amounts
returns-clause-amounts c other =
    let rows = c.args.self.now.rows in
    let new : Balance = record { node = c.args.node; amount = c.at.result + c.from.result } in
    let is : c.at.result + c.from.result ≡ amount_at rows c.args.node + c.args.bytes = omega (arith, c.at.ensures, c.from.ensures) in
    ap (λ (t : List Balance). amount_at t other) c.put.ensures.rows ∙ raised rows new c.args.bytes other is
