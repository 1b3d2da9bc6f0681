use Rattle.std.proofs.Common.{◌≡◌, take, drop}
use Rattle.segment_core.specs.Commit.{first_repeated, first_repeated_after}
use Rattle.segment_core.proofs.committing.first_repeated.Given as goal

abbrev pub invariant-loop-i : goal.invariant-loop-i
invariant-loop-i l = first_repeated l.indexes ≡ first_repeated_after (take l.i l.indexes) (drop l.i l.indexes)
