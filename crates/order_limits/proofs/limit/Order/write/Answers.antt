use Rattle.std.proofs.Common.{[], replicate, refl, arith}
use Rattle.std.specs.Int.{w64, to_be_bytes}
use Rattle.order_limits.specs.Keys.{node_key, order_tag_of}
use Rattle.order_limits.specs.Order.{limit_bytes, order_bytes}
use Rattle.order_limits.proofs.Pieces.{grown, all_of, length-limit, length-order_tag}
use Rattle.order_limits.proofs.limit.Order.write.Goals as goal

pub returns : goal.returns
unfolding order_bytes
returns c =
    let secret = c.args.keys.now in
    let o = c.args.self.now in
    let s1 = grown (replicate 123 0) c.write_at.new.out c.write.result [] (limit_bytes secret o.limit) 0 83 c.write_at.ensures.front refl c.write.ensures (length-limit (node_key secret o.limit.node) o.limit) in
    let s2 = grown c.write_at.new.out c.write_at-2.new.out c.to_be_bytes.result _ (to_be_bytes w64 o.amount) 83 8 c.write_at-2.ensures.front s1 c.to_be_bytes.ensures refl in
    let s3 = grown c.write_at-2.new.out c.write_at-3.new.out c.order_tag-tag.result _ (order_tag_of secret o.limit.serial o.limit.node o.amount) 91 32 c.write_at-3.ensures.front s2 c.order_tag-tag.ensures (length-order_tag secret o.limit.serial o.limit.node o.amount) in
    all_of c.write_at-3.new.out _ 123 (omega arith) s3
