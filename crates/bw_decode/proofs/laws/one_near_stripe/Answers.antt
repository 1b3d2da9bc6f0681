use Rattle.bw_decode.proofs.NearStripes.{one_near}
use Rattle.bw_decode.proofs.laws.one_near_stripe.Goals as goal

pub returns : goal.returns
returns c = one_near
