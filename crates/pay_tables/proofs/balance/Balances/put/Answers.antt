use Rattle.std.proofs.Common.{◌≡◌, true, sym, subst}
use Rattle.rows.specs.Slots.{Slots, has_slot}
use Rattle.pay_tables.specs.declared.balance.Balance.{Balance}
use Rattle.pay_tables.proofs.Balanced.{slots-put}
use Rattle.pay_tables.proofs.balance.Balances.put.Goals as goal

pub invariant_of-self : goal.invariant_of-self
invariant_of-self c =
    let placed = subst (λ (t : Slots Balance). has_slot t c.args.balance.node.0 ≡ true) (sym c.self.view_is) c.requires in
    slots-put c.self.inside.table c.put.new.self c.args.balance c.self.invariant placed c.put.ensures.rows c.put.ensures.slots
