use Rattle.std.proofs.Common.{[], take}
use Rattle.month_sums.specs.Open.{GoByRows}
use Rattle.month_sums.specs.Counting.{AreSmall}
use Rattle.month_sums.proofs.counting.count_all.Given as goal

-- the orders before i are counted, and small
abbrev pub invariant-loop-i : goal.invariant-loop-i
invariant-loop-i l = record { counts : GoByRows l.counted.rows (take l.i l.settled) [] []; small : AreSmall (take l.i l.settled) }

-- and the tallies before j
abbrev pub invariant-loop-j : goal.invariant-loop-j
invariant-loop-j l = record { counts : GoByRows l.counted.rows l.settled (take l.j l.tallies) []; small : AreSmall l.settled }
