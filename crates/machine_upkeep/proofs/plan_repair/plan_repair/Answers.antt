use Rattle.std.proofs.Common.{sym}
use Rattle.machine_store.specs.Store.{tables_of}
use Rattle.machine_upkeep.proofs.SizeLemmas.{repair-sized}
use Rattle.machine_upkeep.proofs.plan_repair.plan_repair.Goals as goal

pub repair_from-requires-clause-len : goal.repair_from-requires-clause-len
repair_from-requires-clause-len c = (repair-sized (tables_of c.args.store.now) c.requires.valid c.in-Some.segment.now (sym c.in-Some.ensures)).few
