use Rattle.sqlite.specs.Held.{state}
use Rattle.keeper_sqlite.proofs.LastCommit.{keeps_query}
use Rattle.keeper_sqlite.proofs.statements.probe.Goals as goal

pub returns-clause-kept : goal.returns-clause-kept
returns-clause-kept g c =
    keeps_query (λ rows. rows.items) (state g.S.Store c.args.tx.now.conn.now) (state g.S.Store c.query_all.new.self.conn.now) _ _ c.query_all.result c.requires c.query_all.ensures.ok c.query_all.ensures.err c.query_all.ensures.survives
