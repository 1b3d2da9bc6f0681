use Rattle.std.proofs.Common.{slice_index}
use Rattle.rs_stripe.proofs.Barycentric.{nothing_added}
use Rattle.bw_decode.proofs.prediction.add_multiple.Goals as goal

pub returns-then-weight-eq0 : goal.returns-then-weight-eq0
returns-then-weight-eq0 c i h =
    nothing_added c.args.weight (slice_index c.args.row.now i) (slice_index c.args.bytes.now i) c.if-weight-eq0.true
