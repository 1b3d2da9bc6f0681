use Rattle.std.proofs.Common.{ap, sym, ◌∙◌}
use Rattle.segment_core.specs.Commit.{is_among}
use Rattle.machine_step.specs.Mending.{kept_sources}
use Rattle.machine_upkeep.proofs.PutLemmas.{put-placed, put-unplaced}
use Rattle.machine_upkeep.proofs.mending.mended_pieces.Goals as goal
use Rattle.machine_upkeep.proofs.mending.mended_pieces.Goals.{then-is_placed+in_ok-put_piece, else-is_placed}

pub loop-target-preserved : goal.loop-target-preserved
loop-target-preserved c = elim c.if-is_placed.branch [
  | then-is_placed+in_ok-put_piece w ↦
      ap (λ pieces. pieces.items) w.pieces-is ∙ w.in_ok-put_piece.ensures
      ∙ put-placed (λ target. is_among c.args.mended.now.placed target.index) c.args.mended.now.plan.targets c.as_slice-target-items.result.now (kept_sources c.args.mended.now) c.loop-target.pieces.items c.loop-target.target-index _
      c.as_slice-target-items.ensures c.loop-target-test.true c.loop-target.invariant (sym c.is_placed.ensures ∙ w.if-is_placed.true)
  | else-is_placed w ↦
      ap (λ pieces. pieces.items) w.pieces-is
      ∙ put-unplaced (λ target. is_among c.args.mended.now.placed target.index) c.args.mended.now.plan.targets c.as_slice-target-items.result.now (kept_sources c.args.mended.now) c.loop-target.pieces.items c.loop-target.target-index _
      c.as_slice-target-items.ensures c.loop-target-test.true c.loop-target.invariant (sym c.is_placed.ensures ∙ w.if-is_placed.false)
]
