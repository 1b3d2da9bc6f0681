use Rattle.std.proofs.Common.{sym, subst}
use Rattle.tally_payout.specs.declared.amounts.Sums.{Sums}
use Rattle.tally_payout.specs.Tariff.{IsSums}
use Rattle.pay_tables.proofs.Hours.{sums-small}
use Rattle.pay_tables.proofs.laws.open_sums_are_small.Goals as goal

pub returns : goal.returns
returns c setup segments settled p node month step low unstated =
    subst (λ (sums : Sums). IsSums sums) (sym (step.sums node month low unstated)) (sums-small settled p.tallies.rows node month step.small step.few step.rising step.bytes step.early)
