use Rattle.sqlite.specs.Held.{state}
use Rattle.keeper_sqlite.proofs.OpenedFiles.{holds_rows}
use Rattle.keeper_sqlite.proofs.keeper.KeeperSqlite.of.Goals as goal

pub returns-in-Ok-clause-kept : goal.returns-in-Ok-clause-kept
returns-in-Ok-clause-kept g c clean up m holds = c.in-Ok.ensures.commits.ok clean up m holds

pub returns-in-Ok-clause-found : goal.returns-in-Ok-clause-found
returns-in-Ok-clause-found g c clean up image found has small =
    let was_open = c.in-Ok.ensures.commits.was_open clean up in
    let holds = holds_rows image (state g.S.Store c.args.conn).committed found (c.schema-schema.ensures.live was_open).1 has small in
    c.in-Ok.ensures.commits.ok clean up _ holds
