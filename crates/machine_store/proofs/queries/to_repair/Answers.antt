use Rattle.std.proofs.Common.{◌∙◌}
use Rattle.machine_store.proofs.HealthLemmas.{repair-like}
use Rattle.machine_store.proofs.queries.to_repair.Goals as goal

pub returns : goal.returns
returns c = c.least.ensures ∙ repair-like c.args.store.now c.requires.valid c.requires.own c.requires.fresh
