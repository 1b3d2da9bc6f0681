use Rattle.record_rows.proofs.KindLemmas.{told_apart}
use Rattle.record_rows.proofs.laws.kind_is_told_apart.Goals as goal

pub returns : goal.returns
returns g c = told_apart g.met.K.Kind.parts g.met.K.Id.Coded.apart g.met.K.Id.Ordered.order g.met.K.Body.Coded.apart
