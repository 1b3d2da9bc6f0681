use Rattle.keeper_sqlite.proofs.MadeChanges.{makes_delete}
use Rattle.keeper_sqlite.proofs.statements.delete.Goals as goal

pub returns-clause-makes : goal.returns-clause-makes
returns-clause-makes g c clean =
    makes_delete g.S.Store c.args.tx.now.conn.now c.execute.new.self.conn.now c.args.kind c.args.id.now _
    (rw (c.params-to_sql.ensures, c.params-to_sql-2.ensures, c.from.ensures)) _ c.execute.result c.execute.ensures.ended (c.execute.ensures.runs clean)
