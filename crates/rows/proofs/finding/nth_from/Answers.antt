use Rattle.std.proofs.Common.{◌≡◌, ◌<◌, ◌≤◌, length, sym, ◌∙◌}
use Rattle.rows.proofs.BlockLemmas.{nth_here, nth_behind}
use Rattle.rows.proofs.finding.nth_from.Goals as goal

pub returns-then-left-len : goal.returns-then-left-len
returns-then-left-len g c =
    let within : c.loop-block.left < length c.block-item.result.rows = rw (← c.len.ensures) c.if-left-len.true in
    sym (nth_here c.args.blocks.now c.loop-block.block-index c.block-item.result c.loop-block-test.true c.block-item.is c.loop-block.left c.index-as_slice-left.result within
    (rw (← c.as_slice.ensures.rows) c.index-as_slice-left.is))
    ∙ c.loop-block.invariant

pub loop-block-preserved : goal.loop-block-preserved
loop-block-preserved g c =
    let past : length c.block-item.result.rows ≤ c.loop-block.left = rw (← c.len.ensures) c.if-left-len.false in
    rw c.len-left.ensures (sym (nth_behind c.args.blocks.now c.loop-block.block-index c.block-item.result c.loop-block-test.true c.block-item.is c.loop-block.left past))
    ∙ c.loop-block.invariant
