use Rattle.std.proofs.Common.{ap, ◌∙◌}
use Rattle.rows.specs.Slots.{Slots, has_slot}
use Rattle.pay_tables.specs.declared.balance.Balance.{Balance}
use Rattle.pay_tables.specs.Amounts.{balance_rank}
use Rattle.pay_tables.proofs.Freed.{no-slot-more}
use Rattle.pay_tables.proofs.balance.Balances.release.Goals as goal

pub returns-clause-others : goal.returns-clause-others
returns-clause-others c k none =
    no-slot-more balance_rank c.self.inside.table c.release.new.self c.from.result c.release.ensures.released c.release.ensures.kept k (ap (λ (t : Slots Balance). has_slot t k) c.self.view_is ∙ none)
