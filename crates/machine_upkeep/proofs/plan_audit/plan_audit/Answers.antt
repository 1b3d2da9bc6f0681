use Rattle.std.proofs.Common.{sym}
use Rattle.machine_store.specs.Store.{tables_of}
use Rattle.machine_upkeep.proofs.SizeLemmas.{picked-sized}
use Rattle.machine_upkeep.proofs.plan_audit.plan_audit.Goals as goal

pub audit_of-requires-clause-some : goal.audit_of-requires-clause-some
audit_of-requires-clause-some c = (picked-sized (tables_of c.args.store.now) c.requires.valid _ c.in-Some.segment.now (sym c.in-Some.ensures)).some

pub audit_of-requires-clause-few : goal.audit_of-requires-clause-few
audit_of-requires-clause-few c = (picked-sized (tables_of c.args.store.now) c.requires.valid _ c.in-Some.segment.now (sym c.in-Some.ensures)).few
