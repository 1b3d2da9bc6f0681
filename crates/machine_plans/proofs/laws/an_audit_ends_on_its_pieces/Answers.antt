use Rattle.machine_plans.proofs.AuditEnds.{audit_places}
use Rattle.machine_plans.proofs.laws.an_audit_ends_on_its_pieces.Goals as goal

pub returns : goal.returns
returns c = audit_places
