use Rattle.pay_tables.proofs.Segments.{amount-has}
use Rattle.pay_tables.proofs.laws.a_segment_that_is_there_is_stored.Goals as goal

pub returns : goal.returns
returns c setup segments settled p segment step at = amount-has setup p.stored.rows segments segment step.stored at
