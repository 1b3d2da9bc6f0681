use Rattle.keeper_sqlite.proofs.TableCreation.{makes_table, makes_new}
use Rattle.keeper_sqlite.proofs.statements.create_table.Goals as goal

pub returns-clause-makes : goal.returns-clause-makes
returns-clause-makes g c clean = makes_table g.S.Store c.args.tx.now.conn.now c.execute.new.self.conn.now _ c.execute.result c.execute.ensures.ended (c.execute.ensures.runs clean)

pub returns-clause-made : goal.returns-clause-made
returns-clause-made g c clean = makes_new g.S.Store c.args.tx.now.conn.now c.execute.new.self.conn.now _ c.execute.result c.execute.ensures.ended (c.execute.ensures.runs clean)
