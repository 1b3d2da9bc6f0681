use Rattle.std.proofs.Common.{arith}
use Rattle.keeper_sqlite.proofs.MadeChanges.{makes_upsert}
use Rattle.keeper_sqlite.proofs.statements.upsert.Goals as goal

pub returns-clause-makes : goal.returns-clause-makes
returns-clause-makes g c clean =
    makes_upsert g.S.Store c.args.tx.now.conn.now c.execute.new.self.conn.now c.args.row.now.kind c.args.row.now.id c.args.row.now.body (omega arith) _
    (rw (c.params-to_sql.ensures, c.params-to_sql-2.ensures, c.params-to_sql-3.ensures, c.from.ensures, c.as_slice.ensures, c.as_slice-2.ensures)) _ c.execute.result c.execute.ensures.ended (c.execute.ensures.runs clean)
