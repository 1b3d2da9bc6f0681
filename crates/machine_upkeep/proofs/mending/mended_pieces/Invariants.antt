use Rattle.std.proofs.Common.{◌≡◌, take}
use Rattle.std.specs.Prelude.{filter, fold}
use Rattle.segment_core.specs.Commit.{is_among}
use Rattle.machine_step.specs.Mending.{kept_sources, with_piece}
use Rattle.machine_upkeep.proofs.mending.mended_pieces.Given as goal

abbrev pub invariant-loop-target : goal.invariant-loop-target
invariant-loop-target l = l.pieces.items ≡ fold with_piece (kept_sources l.mended) (filter (λ target. is_among l.mended.placed target.index) (take l.target-index l.mended.plan.targets))
