use Rattle.std.proofs.Common.{arith, ◌≡◌}
use Rattle.sat_base.specs.Outside.{raised}
use Rattle.keeper_sqlite.proofs.keeper.KeeperSqliteKeeper.load.Goals as goal

pub returns-in-Fault-clause-faults : goal.returns-in-Fault-clause-faults
returns-in-Fault-clause-faults g c =
    let is : c.refusal.new.faults ≡ raised c.args.self.now.faults = c.in-Fault.ensures.counted in
    (c.refusal.ensures.rises, omega (arith, is))
