use Rattle.std.proofs.Common.{refl, arith, ◌≡◌}
use Rattle.sat_base.specs.Outside.{raised}
use Rattle.sat_base.specs.Rows.{changed}
use Rattle.sqlite.specs.Held.{state}
use Rattle.keeper_sqlite.specs.Records.{Holds, rows_in}
use Rattle.keeper_sqlite.proofs.keeper.KeeperSqliteKeeper.commit.Goals as goal

pub returns-in-Ok-clause-told : goal.returns-in-Ok-clause-told
returns-in-Ok-clause-told g c sure told =
    let old = (state g.S.Store c.args.self.now.conn).committed in
    let now = (state g.S.Store c.write.new.conn).committed in
    let held : Holds now (changed c.args.changes.now (rows_in old.trees)) = c.in-Ok.ensures.commits.ok sure.0 sure.1 (rows_in old.trees) told in
    record { schema = held.schema; records = held.records; is = refl }

pub returns-in-Fault-clause-faults : goal.returns-in-Fault-clause-faults
returns-in-Fault-clause-faults g c =
    let is : c.refusal.new.faults ≡ raised c.args.self.now.faults = c.in-Fault.ensures.counted in
    (c.refusal.ensures.rises, omega (arith, is))
