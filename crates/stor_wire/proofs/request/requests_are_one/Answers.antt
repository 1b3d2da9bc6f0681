use Rattle.stor_wire.proofs.AskLemmas.{one_request}
use Rattle.stor_wire.proofs.request.requests_are_one.Goals as goal

pub returns : goal.returns
returns c = λ bytes a b x y. one_request bytes a b x y
