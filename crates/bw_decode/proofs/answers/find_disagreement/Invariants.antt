use Rattle.std.proofs.Common.{ℕ, ◌≡◌, ◌<◌, get_or, false}
use Rattle.sat_base.specs.declared.items.Share.{Share}
use Rattle.bw_decode.specs.Altered.{is_altered}
use Rattle.bw_decode.proofs.answers.find_disagreement.Given as goal

abbrev pub invariant-loop-i : goal.invariant-loop-i
invariant-loop-i l =
    (k : ℕ) (a : Share) → k < l.i → get_or l.blamed k false ≡ false
    → is_altered l.scheme.k l.scheme.share l.stripe (get_or l.answers k a) ≡ false
