use Rattle.std.proofs.Common.{◌≡◌, drop}
use Rattle.gf_linear.specs.Polynomial.{horner}
use Rattle.bw_decode.proofs.decoding.monic_at.Given as goal

abbrev pub invariant-loop-i : goal.invariant-loop-i
invariant-loop-i l = l.value ≡ horner 1 (drop l.i l.coefficients) l.x
