use Rattle.std.proofs.Common.{refl}
use Rattle.std.specs.Fmt.{digits}
use Rattle.month_text.proofs.MonthLemmas.{reads_back}
use Rattle.month_text.proofs.months_are_spelled.Goals as goal

pub returns : goal.returns
unfolding digits
returns c = record { reads_back = reads_back; march = (refl, refl); first = (refl, refl); last = (refl, refl) }
