use Rattle.std.proofs.Common.{sym}
use Rattle.machine_store.proofs.OpeningLemmas.{sole_first}
use Rattle.machine_store.proofs.plans.sole.Goals as goal

pub returns-in-Some : goal.returns-in-Some
returns-in-Some g c = sym (sole_first _ _ c.in-Some.plan c.in-Some.ensures.items c.requires)
