use Rattle.machine_plans.proofs.AuditEnds.{asks_its_pieces}
use Rattle.machine_plans.proofs.laws.an_ended_audit_asks_its_pieces.Goals as goal

pub returns : goal.returns
returns c = asks_its_pieces
