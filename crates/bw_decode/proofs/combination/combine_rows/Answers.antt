use Rattle.std.proofs.Common.{◌+◌, ◌-◌, ◌*◌, ◌∙◌, length, arith}
use Rattle.bw_decode.specs.Forms.{combined}
use Rattle.bw_decode.specs.Answers.{row_value}
use Rattle.bw_decode.proofs.Forms.{row_combined, written_more}
use Rattle.bw_decode.proofs.combination.combine_rows.Goals as goal

pub loop-l-preserved : goal.loop-l-preserved
loop-l-preserved c =
    let factors = c.args.factors.now in
    let size = length factors in
    let l = c.loop-l.l in
    written_more c.loop-l.column l c.combine_bytes.result (row_value size c.args.stripe.now (combined factors)) (omega arith)
    c.loop-l.invariant
    (c.combine_bytes.ensures ∙ row_combined factors c.args.stripe.now l (l * size + size - l * size) (omega arith))
