use Rattle.named_segments.proofs.Audited.{audit_blames}
use Rattle.named_segments.proofs.laws.an_audit_blames_the_altered.Goals as goal

pub returns : goal.returns
returns c = audit_blames
