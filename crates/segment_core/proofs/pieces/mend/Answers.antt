use Rattle.std.proofs.Common.{◌∙◌, ◌++◌, length-append}
use Rattle.std.proofs.lemmas.List.Sorted.{length_permutation}
use Rattle.segment_core.proofs.pieces.mend.Goals as goal

pub returns-clause-number : goal.returns-clause-number
returns-clause-number c =
    rw c.of.ensures (length_permutation (c.args.keep.now ++ c.args.add.now) _ c.in_ok-pieces.ensures.places ∙ length-append c.args.keep.now c.args.add.now)
