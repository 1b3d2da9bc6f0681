use Rattle.std.proofs.Common.{[], replicate, refl, arith}
use Rattle.std.specs.Int.{w32, w64, to_be_bytes}
use Rattle.order_limits.specs.Keys.{order_tag_of}
use Rattle.order_limits.proofs.Pieces.{grown, all_of}
use Rattle.order_limits.proofs.limit.order_tag.Goals as goal

pub returns : goal.returns
unfolding order_tag_of
returns c =
    let s1 = grown (replicate 12 0) c.write_at.new.out c.to_be_bytes.result [] (to_be_bytes w32 c.args.node.0) 0 4 c.write_at.ensures.front refl c.to_be_bytes.ensures refl in
    let s2 = grown c.write_at.new.out c.write_at-2.new.out c.to_be_bytes-2.result _ (to_be_bytes w64 c.args.amount) 4 8 c.write_at-2.ensures.front s1 c.to_be_bytes-2.ensures refl in
    let text = all_of c.write_at-2.new.out _ 12 (omega arith) s2 in
    rw (c.hmac.ensures, c.serial.ensures, text) refl
