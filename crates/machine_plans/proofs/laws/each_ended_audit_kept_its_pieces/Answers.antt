use Rattle.machine_plans.proofs.AuditEnds.{each_audit}
use Rattle.machine_plans.proofs.laws.each_ended_audit_kept_its_pieces.Goals as goal

pub returns : goal.returns
returns c = each_audit
