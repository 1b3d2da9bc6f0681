use Rattle.std.proofs.Common.{◌≡◌, length}
use Rattle.sat_drill.proofs.driver.Driver.begin.Given as goal

abbrev pub invariant-loop-before : goal.invariant-loop-before
invariant-loop-before l = length l.self.run.history ≡ l.before
