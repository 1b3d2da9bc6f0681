use Rattle.std.proofs.Common.{◌≡◌, drop}
use Rattle.std.specs.Prelude.{slice_get}
use Rattle.rows.specs.Blocks.{all_rows}
use Rattle.rows.proofs.finding.nth_from.Given as goal

-- what is sought stands among the rows of the blocks that are left
abbrev pub invariant-loop-block : goal.invariant-loop-block
invariant-loop-block g l = slice_get (all_rows (drop l.block-index l.blocks)) l.left ≡ slice_get (all_rows l.blocks) l.k
