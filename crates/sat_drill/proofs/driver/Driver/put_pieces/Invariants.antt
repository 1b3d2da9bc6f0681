use Rattle.std.proofs.Common.{◌≡◌}
use Rattle.sat_drill.proofs.driver.Driver.put_pieces.Given as goal

abbrev pub invariant-loop-place : goal.invariant-loop-place
invariant-loop-place l = l.self.run ≡ l.initial.self.run
