use Rattle.std.proofs.Common.{◌≡◌, replicate}
use Rattle.month_sums.proofs.counting.no_pots.Given as goal

abbrev pub invariant-loop : goal.invariant-loop
invariant-loop l = l.pots.items ≡ replicate l.counter 0
