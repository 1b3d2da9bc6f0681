use Rattle.askable_plans.proofs.Audits.{audit_askable}
use Rattle.askable_plans.proofs.laws.a_planned_audit_can_be_asked.Goals as goal

pub returns : goal.returns
returns c = audit_askable
