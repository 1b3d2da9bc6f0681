use Rattle.std.proofs.Common.{◌∙◌, ap, slice_index, arith}
use Rattle.gf256.specs.Sums.{total}
use Rattle.bw_decode.proofs.Forms.{plain_sum}
use Rattle.bw_decode.proofs.combination.combine_bytes.Goals as goal

pub returns-then-base-eq1 : goal.returns-then-base-eq1
returns-then-base-eq1 c =
    let bytes = slice_index c.args.bytes.now in
    c.sum_bytes.ensures ∙ ap (λ n. total n bytes) c.requires.length
    ∙ plain_sum c.args.factors.now bytes (c.requires.ones c.if-base-eq1.true) (λ i. omega (arith, c.type_inv.bytes i))
