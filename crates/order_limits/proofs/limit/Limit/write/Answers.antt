use Rattle.std.proofs.Common.{◌≡◌, ap, arith}
use Rattle.order_limits.specs.Hmac.{hmac}
use Rattle.order_limits.specs.Part.{part}
use Rattle.order_limits.specs.Keys.{node_key}
use Rattle.order_limits.specs.Order.{limit_body, limit_under}
use Rattle.order_limits.proofs.Pieces.{grown, all_of, length-hmac}
use Rattle.order_limits.proofs.limit.Limit.write.Goals as goal

pub returns : goal.returns
unfolding limit_under part
returns c =
    let l = c.args.self.now in
    let body = limit_body l in
    let key = node_key c.args.keys.now l.node in
    let tag : c.hmac-tag.result ≡ hmac key body = rw (c.hmac-tag.ensures, c.node.ensures, c.bytes_at.ensures.bytes) (ap (hmac key) c.write_body.ensures) in
    let s = grown c.write_body.new.out c.write_at.new.out c.hmac-tag.result body (hmac key body) 51 32 c.write_at.ensures.front c.write_body.ensures tag (length-hmac key body) in
    all_of c.write_at.new.out _ 83 (omega arith) s
