use Rattle.pay_tables.proofs.Segments.{stored-is}
use Rattle.pay_tables.proofs.laws.kept_bytes_are_those_stored.Goals as goal

pub returns : goal.returns
returns c setup segments settled p node step = stored-is setup segments p.stored.rows node step.stored
