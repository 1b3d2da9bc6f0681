use Rattle.std.proofs.Common.{ℕ, ◌≡◌, ◌<◌, length, get_or, false, not, eqb}
use Rattle.sat_base.specs.declared.items.Share.{Share}
use Rattle.bw_decode.proofs.answers.mark_wrong_lengths.Given as goal

abbrev pub invariant-loop-i : goal.invariant-loop-i
invariant-loop-i l =
    (k : ℕ) (a : Share) → k < l.i
    → get_or l.blamed k false ≡ not (eqb (length (get_or l.answers k a).bytes) l.size)
