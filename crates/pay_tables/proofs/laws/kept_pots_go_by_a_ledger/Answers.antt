use Rattle.pay_tables.proofs.Pots.{pots-ledger}
use Rattle.pay_tables.proofs.laws.kept_pots_go_by_a_ledger.Goals as goal

pub returns : goal.returns
returns c l pots go_by earlier = pots-ledger l pots go_by earlier
